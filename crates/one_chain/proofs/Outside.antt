-- What a run did to the outside so far, and how it ends there.
use Rattle.std.proofs.Common.{◌≢◌, ◌≤◌, ℕ, List, [], ◌++◌, Option, Some, None, IfSome, Err, inl, inr, arith}
use Rattle.bc_outside.specs.Told.{ShelfTold, SinkTold}
use Rattle.bc_outside.specs.Calls.{Rose, FailsOnlyBy, HasCause, ShelfKeeps, SinkKeeps}
use Rattle.bc_outside.specs.declared.trouble.Trouble.{Trouble}
use Rattle.bc_outside.specs.declared.trouble.Trouble.TheVariants as troubles
use Rattle.bc_outside.proofs.Keeping.{keeps_none, keeps_then, keeps_more, sink_keeps_none, sink_keeps_then}
use Rattle.bc_words.specs.Events.{EventOutcome}
use Rattle.bc_words.specs.declared.store_stop.StoreStop.{StoreStop}
use Rattle.bc_words.specs.declared.store_stop.StoreStop.TheVariants as stores
use Rattle.record_file.specs.Stops.{SourceStopsBy}
use Rattle.record_file.specs.declared.source.SourceStop.{SourceStop}
use Rattle.record_file.specs.declared.source.SourceStop.TheVariants as sources
use Rattle.spec_fork_choice.specs.Store.{Store}
use Rattle.spec_fork_choice.specs.OnEvent.{Accepted}
use Rattle.fork_store.specs.declared.anchor.AnchorStop.{AnchorStop}
use Rattle.fork_store.specs.declared.anchor.AnchorStop.TheVariants as anchors
use Rattle.one_chain.specs.declared.genesis.GenesisStop.{GenesisStop}
use Rattle.one_chain.specs.declared.genesis.GenesisStop.TheVariants as genesis
use Rattle.one_chain.specs.declared.status.Status.{Status}
use Rattle.one_chain.specs.declared.status.Status.TheVariants as statuses
use Rattle.one_chain.specs.Answers.{HasCauses, OutsideKeeps}
use Rattle.one_chain.specs.inside.AnchorAnswers.{no_anchor}
use Rattle.one_chain.specs.inside.GenesisAnswers.{no_genesis, no_store}
use Rattle.one_chain.specs.inside.Progress.{EndsAt}
use Rattle.one_chain.specs.inside.Statuses.{unread, unwritten, no_event}

pub rose_behind : (a b c : ℕ) → a ≤ b → Rose b c → Rose a c
rose_behind a b c le (inl less) = inl (omega (arith, le, less))
rose_behind a b c le (inr last) = inr last

-- the run goes on
pub so_far : {names : List (List ℕ)} {s t : ShelfTold} {p q : SinkTold} → ShelfKeeps names s t → SinkKeeps p q → OutsideKeeps names None s t p q
so_far h k = record { causes = tt; shelf = h; sink = k }

pub untouched : (s : ShelfTold) (p : SinkTold) → OutsideKeeps [] None s s p p
untouched s p = so_far (keeps_none s) (sink_keeps_none p)

pub only_shelf : {names : List (List ℕ)} {s t : ShelfTold} {p : SinkTold} → ShelfKeeps names s t → OutsideKeeps names None s t p p
only_shelf {names} {s} {t} {p} h = so_far h (sink_keeps_none p)

-- what came after it
causes_behind : (ended : Option Status) {names more : List (List ℕ)} {s t u : ShelfTold} {p q r : SinkTold} → OutsideKeeps names None s t p q → OutsideKeeps more ended t u q r
    → IfSome ended (λ status. HasCauses status s.faults u.faults p.faults r.faults)
causes_behind None h k = tt
causes_behind (Some status) {names} {more} {s} {t} {u} {p} {q} {r} h k = record {
  read = λ is. rose_behind s.faults t.faults u.faults h.shelf.faults (k.causes.read is);
  write = λ is. rose_behind p.faults q.faults r.faults h.sink.faults (k.causes.write is);
}

pub outside_then : (names more : List (List ℕ)) {ended : Option Status} {s t u : ShelfTold} {p q r : SinkTold}
    → OutsideKeeps names None s t p q → OutsideKeeps more ended t u q r → OutsideKeeps (names ++ more) ended s u p r
outside_then names more {ended} h k = record {
  causes = causes_behind ended h k;
  shelf = keeps_then names more h.shelf k.shelf;
  sink = sink_keeps_then h.sink k.sink;
}

-- the run ends here, before more names are asked for
pub ends_here : (names more : List (List ℕ)) {status : Status} {s t : ShelfTold} {p q : SinkTold}
    → OutsideKeeps names None s t p q → HasCauses status s.faults t.faults p.faults q.faults → OutsideKeeps (names ++ more) (Some status) s t p q
ends_here names more h causes = record { causes = causes; shelf = keeps_more names more h.shelf; sink = h.sink }

-- no fault of the outside
pub no_fault : (status : Status) {a b c d : ℕ} → status ≢ statuses.ReadFault → status ≢ statuses.WriteFault → HasCauses status a b c d
no_fault status not_read not_write = record { read = λ is. absurd (not_read is); write = λ is. absurd (not_write is) }

pub unread_causes : (trouble : Trouble) {a b c : ℕ} → HasCause {T = Unit {0}} (Err trouble) a b → HasCauses (unread trouble) a b c c
unread_causes troubles.Failed h = record { read = λ is. h.1; write = λ is. cc }
unread_causes troubles.NoMemory h = no_fault statuses.NoMemory (λ is. cc) (λ is. cc)

pub unopened_causes : (trouble : Trouble) {a b c : ℕ} → FailsOnlyBy {T = Unit {0}} (Err trouble) a b → HasCauses (unread trouble) a b c c
unopened_causes troubles.Failed h = record { read = λ is. h.1; write = λ is. cc }
unopened_causes troubles.NoMemory h = no_fault statuses.NoMemory (λ is. cc) (λ is. cc)

pub unwritten_causes : (trouble : Trouble) {a b c d : ℕ} → HasCause {T = Unit {0}} (Err trouble) c d → HasCauses (unwritten trouble) a b c d
unwritten_causes troubles.Failed h = record { read = λ is. cc; write = λ is. h.1 }
unwritten_causes troubles.NoMemory h = no_fault statuses.NoMemory (λ is. cc) (λ is. cc)

pub source_causes : (stop : SourceStop) {a b c : ℕ} → SourceStopsBy {T = Unit {0}} (Err stop) a b → HasCauses (no_event stop) a b c c
source_causes (sources.Fault event fault) h = record { read = λ is. cc; write = λ is. cc }
source_causes (sources.Limit event bound) h = record { read = λ is. cc; write = λ is. cc }
source_causes sources.ReadFault h = record { read = λ is. h.1; write = λ is. cc }
source_causes sources.NoMemory h = no_fault statuses.NoMemory (λ is. cc) (λ is. cc)

pub event_causes : (status : Status) (number : ℕ) (outcome : EventOutcome (Store × Accepted)) {a b c d : ℕ} → EndsAt status number outcome → HasCauses status a b c d
event_causes (statuses.Limit which event limit) number outcome h = record { read = λ is. cc; write = λ is. cc }
event_causes (statuses.Clash which event kind kept_which) number outcome h = record { read = λ is. cc; write = λ is. cc }
event_causes statuses.NoMemory number outcome h = no_fault statuses.NoMemory (λ is. cc) (λ is. cc)
event_causes statuses.Done number outcome h = absurd h
event_causes statuses.Words number outcome h = absurd h
event_causes (statuses.Config fault) number outcome h = absurd h
event_causes (statuses.Genesis part) number outcome h = absurd h
event_causes (statuses.Record which event fault) number outcome h = absurd h
event_causes (statuses.Deposits fault) number outcome h = absurd h
event_causes (statuses.Duties fault) number outcome h = absurd h
event_causes (statuses.Anchor fault) number outcome h = absurd h
event_causes statuses.ReadFault number outcome h = absurd h
event_causes statuses.WriteFault number outcome h = absurd h

pub genesis_causes : (stop : GenesisStop) {a b c d : ℕ} → HasCauses (no_genesis stop) a b c d
genesis_causes (genesis.Fault part) = record { read = λ is. cc; write = λ is. cc }
genesis_causes genesis.NoMemory = no_fault statuses.NoMemory (λ is. cc) (λ is. cc)

pub anchor_causes : (stop : AnchorStop) {a b c d : ℕ} → HasCauses (no_anchor stop) a b c d
anchor_causes (anchors.Fault fault) = record { read = λ is. cc; write = λ is. cc }
anchor_causes anchors.NoMemory = no_fault statuses.NoMemory (λ is. cc) (λ is. cc)

pub store_causes : (stop : StoreStop) {a b c d : ℕ} → HasCauses (no_store stop) a b c d
store_causes (stores.Clash kind) = record { read = λ is. cc; write = λ is. cc }
store_causes (stores.Refused refusal) = no_fault statuses.NoMemory (λ is. cc) (λ is. cc)
store_causes (stores.Limit limit) = no_fault statuses.NoMemory (λ is. cc) (λ is. cc)
store_causes stores.NoMemory = no_fault statuses.NoMemory (λ is. cc) (λ is. cc)
