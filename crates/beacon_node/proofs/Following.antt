-- The events of a record that is followed, one after the other.
use Rattle.std.proofs.Common.{◌≡◌, ◌∙◌, ℕ, ◌+◌, Bool, true, false, List, [], ◌∷◌, ◌++◌, Option, Some, None, Result, Ok, Err, IfErr, IfOk, refl, sym, ap, ap₂, append_assoc, arith}
use Rattle.std.specs.Option.{option_map, option_and_then}
use Rattle.bc_outside.specs.Told.{ShelfTold}
use Rattle.bc_outside.specs.Calls.{FailsOnlyBy, ShelfKeeps}
use Rattle.bc_outside.specs.declared.trouble.Trouble.{Trouble}
use Rattle.bc_outside.specs.declared.trouble.Trouble.TheVariants as troubles
use Rattle.bc_outside.proofs.Keeping.{keeps_then}
use Rattle.bc_words.specs.Events.{EventOutcome, accepted, event_refused, event_limited, event_clashes}
use Rattle.bc_words.specs.declared.stop.Limit.{Limit}
use Rattle.bc_words.specs.declared.store_stop.ClashKind.{ClashKind}
use Rattle.bc_words.specs.declared.store_stop.ClashKind.TheVariants as kinds
use Rattle.bc_words.specs.declared.refusal.Refusal.{Refusal}
use Rattle.beacon_types.specs.declared.block.BeaconBlock.{BeaconBlock}
use Rattle.ssz_codec.specs.Lawful.{IsBytes}
use Rattle.record_file.specs.Record as record_file
use Rattle.record_file.specs.Record.{Events, with_event}
use Rattle.record_file.specs.Sources.{Source, NextOf}
use Rattle.record_file.specs.declared.event.Event.{Event}
use Rattle.record_file.specs.declared.fault.RecordFault.{RecordFault}
use Rattle.record_file.specs.declared.source.SourceStop.{SourceStop}
use Rattle.record_file.specs.declared.source.SourceStop.TheVariants as stops
use Rattle.record_file.specs.Stops.{SourceStopsBy}
use Rattle.record_file.proofs.Supplying.{from_none, from_then}
use Rattle.spec_state.specs.declared.plain.PlainState.{PlainState}
use Rattle.spec_fork_choice.specs.Store.{KeptBlock, Store, block_of, is_kept}
use Rattle.spec_fork_choice.specs.Clash.{clash_among, is_another}
use Rattle.spec_fork_choice.specs.OnBlock.{BlockIn}
use Rattle.spec_fork_choice.specs.OnEvent.{Accepted, block, other, on_event}
use Rattle.fork_store.proofs.ArraysPlaces.{block_more}
use Rattle.spec_forensics.specs.Histories as histories
use Rattle.spec_forensics.specs.Histories.{AcceptedBlock}
use Rattle.spec_forensics.specs.Clash.{clash_with, first_accepted, first_or_second, kept_block}
use Rattle.safety_law.specs.Follows.{Follows, IsAdded}
use Rattle.safety_law.proofs.Followed.{added_event, block_is_added, event_followed}
use Rattle.epoch_visitor.specs.Shown.{shown_all}
use Rattle.forensics.specs.Books.{PlainBook, clash_in, history_of, with_block}
use Rattle.forensics.specs.Watches.{PlainWatch, with_entered}
use Rattle.forensics.proofs.Watches.{watched}
use Rattle.spec_replay.specs.Run.{End, bad_record, limited, clash}
use Rattle.spec_replay.specs.Forensic.{Followed, clash_of_accepted, follow_events, follow_then, unless_clash}
use Rattle.beacon_node.specs.declared.follow.Side.{Side}
use Rattle.beacon_node.specs.declared.follow.Side.TheVariants.{First, Second}
use Rattle.one_chain.specs.declared.status.Status.{Status}
use Rattle.one_chain.specs.declared.status.Status.TheVariants as statuses
use Rattle.one_chain.specs.inside.Statuses.{no_event_of, unread}
use Rattle.one_chain.proofs.Outside.{rose_behind}
use Rattle.one_chain.specs.inside.Progress.{outcome_of}
use Rattle.beacon_node.specs.inside.Following.{BlockFollowed, ClashesBy, EventEnds, EventFollowed, FollowedSoFar, FollowedToEnd, FollowsOutside, IsBeside, IsFollowing, IsInside, SameBeside, followed_by, left_by, others_of, which_of}

-- ---- the events of a source

-- at the beginning nothing was followed
pub none_followed : (side : Side) (followed : Followed) (place : Source) (told : ShelfTold) → FollowedSoFar side followed place told followed place told
none_followed side followed place told = record { bytes = []; taken = from_none place.file told; file = refl; comes = λ behind. refl }

-- some events, and then others
pub followed_then : {side : Side} {a b c : Followed} {p q r : Source} {s t u : ShelfTold} → FollowedSoFar side a p s b q t → FollowedSoFar side b q t c r u → FollowedSoFar side a p s c r u
followed_then {side} {a} {b} {c} {p} {q} {r} {s} {t} {u} h k = record {
  bytes = h.bytes ++ k.bytes;
  taken = from_then p.file h.bytes k.bytes false s t u h.taken (rw h.file at k.taken);
  file = k.file ∙ h.file;
  comes = λ behind. ap (left_by side a p) (append_assoc h.bytes k.bytes behind) ∙ (h.comes (k.bytes ++ behind) ∙ k.comes behind);
}

-- some events, and then the rest
pub followed_to_end : {side : Side} {result : Result (Unit {0}) Status} {a b c : Followed} {p q : Source} {s t u : ShelfTold} → FollowedSoFar side a p s b q t → FollowedToEnd side result b q t u c → FollowedToEnd side result a p s u c
followed_to_end {side} {result} {a} {b} {c} {p} {q} {s} {t} {u} h k = record {
  bytes = h.bytes ++ k.bytes;
  met = k.met;
  taken = from_then p.file h.bytes k.bytes k.met s t u h.taken (rw h.file at k.taken);
  leaves = λ behind can. rw (ap (left_by side a p) (append_assoc h.bytes k.bytes behind) ∙ h.comes (k.bytes ++ behind)) (k.leaves behind can);
}

-- no event is to come
none_left : (which : ℕ) (others : List KeptBlock) (number : ℕ) (followed : Followed) → follow_events which others number followed [] record_file.done ≡ Ok followed
unfolding follow_events
none_left which others number followed = refl

none_read : (which : ℕ) (others : List KeptBlock) (number : ℕ) (followed : Followed) (event : ℕ) (reason : RecordFault) → follow_events which others number followed [] (record_file.fault event reason) ≡ Err (bad_record which event reason)
unfolding follow_events
none_read which others number followed event reason = refl

none_made : (which : ℕ) (others : List KeptBlock) (number : ℕ) (followed : Followed) (event : ℕ) (bound : Limit) → follow_events which others number followed [] (record_file.limited event bound) ≡ Err (limited which event bound)
unfolding follow_events
none_made which others number followed event bound = refl

-- what these events leave
abbrev pub left : Side → ℕ → Followed → Events → Result Followed End
left side number followed rest = follow_events (which_of side) (others_of side) number followed rest.events rest.end

-- the events are at their end
pub events_over : (side : Side) (followed : Followed) (place place_then : Source) (told told_then : ShelfTold) → NextOf (Ok None) place place_then told told_then → FollowedToEnd side (Ok tt) followed place told told_then followed
events_over side followed place place_then told told_then h = record {
  bytes = h.bytes;
  met = h.met;
  taken = h.taken;
  leaves = λ behind can. ap (left side (place.events + 1) followed) (h.supplies behind can) ∙ none_left (which_of side) (others_of side) (place.events + 1) followed;
}

-- one could not be read or made
pub no_more_events : (side : Side) (stop : SourceStop) (followed followed_then : Followed) (place place_then : Source) (told told_then : ShelfTold) → NextOf (Err stop) place place_then told told_then
    → FollowedToEnd side (Err (no_event_of (which_of side) stop)) followed place told told_then followed_then
no_more_events side (stops.Fault event reason) followed followed_then place place_then told told_then h = record {
  bytes = h.bytes;
  met = h.met;
  taken = h.taken;
  leaves = λ behind can on. (bad_record (which_of side) event reason, refl, ap (left side (place.events + 1) followed) (h.supplies behind can) ∙ none_read (which_of side) (others_of side) (place.events + 1) followed event reason);
}
no_more_events side (stops.Limit event bound) followed followed_then place place_then told told_then h = record {
  bytes = h.bytes;
  met = h.met;
  taken = h.taken;
  leaves = λ behind can on. (limited (which_of side) event bound, refl, ap (left side (place.events + 1) followed) (h.supplies behind can) ∙ none_made (which_of side) (others_of side) (place.events + 1) followed event bound);
}
no_more_events side stops.ReadFault followed followed_then place place_then told told_then h = record { bytes = h.bytes; met = false; taken = rw h.supplies.0 at h.taken; leaves = λ behind can on. absurd cc }
no_more_events side stops.NoMemory followed followed_then place place_then told told_then h = record { bytes = h.bytes; met = false; taken = rw h.supplies.0 at h.taken; leaves = λ behind can on. absurd cc }

-- ---- one event

event_left : (side : Side) (number : ℕ) (old : Followed) (event : Event) (rest : Events)
    → left side number old (with_event event rest) ≡ follow_then (which_of side) (others_of side) number old (outcome_of old.store event) (λ after. left side (number + 1) after rest)
unfolding follow_events
event_left side number old event rest = refl

module _ (side : Side) (event : Event) (place place_then : Source) (old : Followed) (told told_then : ShelfTold)
    (next : NextOf (Ok (Some event)) place place_then told told_then) (counted : place_then.events ≡ place.events + 1) where
  comes : (behind : List ℕ) → left_by side old place (next.bytes ++ behind) ≡ follow_then (which_of side) (others_of side) place_then.events old (outcome_of old.store event) (λ after. left_by side after place_then behind)
  comes behind = ap (left side (place.events + 1) old) (next.supplies.1 behind) ∙ rw (← counted) (event_left side place_then.events old event (place_then.coming behind))

  -- the others are to come
  pub event_behind : (new : Followed) → place_then.file ≡ place.file → EventFollowed (which_of side) (others_of side) place_then.events old (outcome_of old.store event) new → FollowedSoFar side old place told new place_then told_then
  event_behind new file followed = record {
    bytes = next.bytes;
    taken = rw next.supplies.0 at next.taken;
    file = file;
    comes = λ behind. comes behind ∙ followed (λ after. left_by side after place_then behind);
  }

  -- the run ends at it
  pub event_ends : (status : Status) (new : Followed) → EventEnds status (which_of side) (others_of side) place_then.events old (outcome_of old.store event) → FollowedToEnd side (Err status) old place told told_then new
  event_ends status new ends = record {
    bytes = next.bytes;
    met = false;
    taken = rw next.supplies.0 at next.taken;
    leaves = λ behind can. rw (comes behind) (ends (λ after. left_by side after place_then behind));
  }

-- ---- what an event makes

module _ (which : ℕ) (others : List KeptBlock) (number : ℕ) (old : Followed) (outcome : EventOutcome (Store × Accepted)) where
  pub refused_followed : (why : Refusal) (store : Store) → outcome ≡ event_refused why → store ≡ old.store → EventFollowed which others number old outcome (record { store = store; history = old.history })
  unfolding follow_then
  refused_followed why store is same = λ rest. rw (is, same) refl

  pub other_followed : (store : Store) → outcome ≡ accepted (store, other) → EventFollowed which others number old outcome (record { store = store; history = old.history })
  unfolding follow_then unless_clash clash_of_accepted histories.with_event
  other_followed store is = λ rest. rw is refl

  pub block_followed : (store : Store) (given : BlockIn) (history : List AcceptedBlock) → outcome ≡ accepted (store, block given) → clash_of_accepted others store (block given) ≡ None
      → history ≡ histories.with_event number old.history store (block given) → EventFollowed which others number old outcome (record { store = store; history = history })
  unfolding follow_then unless_clash
  block_followed store given history is clear grown = λ rest. rw (is, clear, grown) refl

  pub limit_ends : (bound : Limit) → outcome ≡ event_limited bound → EventEnds (statuses.Limit which number bound) which others number old outcome
  unfolding follow_then
  limit_ends bound is = λ rest on. (limited which number bound, refl, rw is refl)

  pub clash_ends : (kind : ClashKind) → outcome ≡ event_clashes kind → EventEnds (statuses.Clash which number kind which) which others number old outcome
  unfolding follow_then
  clash_ends kind is = λ rest on. (clash which number kind which, refl, rw is refl)

  pub memory_ends : EventEnds statuses.NoMemory which others number old outcome
  memory_ends = λ rest on. absurd cc

  other_clash : (store : Store) (given : BlockIn) (place : ℕ) → outcome ≡ accepted (store, block given) → clash_of_accepted others store (block given) ≡ Some place → EventEnds (statuses.Clash which number (kinds.Kept place) 0) which others number old outcome
  unfolding follow_then unless_clash
  other_clash store given place is clashes = λ rest on. (clash which number (kinds.Kept place) 0, refl, rw (is, clashes) refl)

  pub block_ends : (status : Status) (store : Store) (given : BlockIn) → outcome ≡ accepted (store, block given) → ClashesBy status which number (clash_of_accepted others store (block given)) → EventEnds status which others number old outcome
  block_ends (statuses.Clash which_is event (kinds.Kept place) kept_which) store given is h =
      rw (h.0, h.1, h.2) (other_clash store given place is h.3)
  block_ends statuses.NoMemory store given is h = memory_ends
  block_ends (statuses.Clash which_is event kinds.ZeroBlock kept_which) store given is h = absurd h
  block_ends (statuses.Clash which_is event kinds.ZeroState kept_which) store given is h = absurd h
  block_ends statuses.Done store given is h = absurd h
  block_ends statuses.Words store given is h = absurd h
  block_ends (statuses.Config fault) store given is h = absurd h
  block_ends (statuses.Genesis part) store given is h = absurd h
  block_ends (statuses.Record which_is event fault) store given is h = absurd h
  block_ends (statuses.Limit which_is event bound) store given is h = absurd h
  block_ends statuses.ReadFault store given is h = absurd h
  block_ends statuses.WriteFault store given is h = absurd h
  block_ends (statuses.Deposits fault) store given is h = absurd h
  block_ends (statuses.Duties fault) store given is h = absurd h
  block_ends (statuses.Anchor fault) store given is h = absurd h

-- a clash is no fault of the outside
pub clash_is_inside : (status : Status) (which number : ℕ) (found : Option ℕ) → ClashesBy status which number found → IsInside status
clash_is_inside (statuses.Clash which_is event kind kept_which) which number found h = record { done = λ is. cc; words = λ is. cc; read = λ is. cc; write = λ is. cc }
clash_is_inside statuses.NoMemory which number found h = record { done = λ is. cc; words = λ is. cc; read = λ is. cc; write = λ is. cc }
clash_is_inside statuses.Done which number found h = absurd h
clash_is_inside statuses.Words which number found h = absurd h
clash_is_inside (statuses.Config fault) which number found h = absurd h
clash_is_inside (statuses.Genesis part) which number found h = absurd h
clash_is_inside (statuses.Record which_is event fault) which number found h = absurd h
clash_is_inside (statuses.Limit which_is event bound) which number found h = absurd h
clash_is_inside statuses.ReadFault which number found h = absurd h
clash_is_inside statuses.WriteFault which number found h = absurd h
clash_is_inside (statuses.Deposits fault) which number found h = absurd h
clash_is_inside (statuses.Duties fault) which number found h = absurd h
clash_is_inside (statuses.Anchor fault) which number found h = absurd h

-- ---- the book

pub same_beside : (side : Side) (book : PlainBook) → SameBeside side book book
same_beside First book = record { config = refl; genesis = refl; other = refl }
same_beside (Second first) book = record { config = refl; genesis = refl; other = refl }

pub beside_then : (side : Side) (a b c : PlainBook) → SameBeside side a b → SameBeside side b c → SameBeside side a c
beside_then First a b c h k = record { config = k.config ∙ h.config; genesis = k.genesis ∙ h.genesis; other = k.other ∙ h.other }
beside_then (Second first) a b c h k = record { config = k.config ∙ h.config; genesis = k.genesis ∙ h.genesis; other = k.other ∙ h.other }

pub still_beside : (side : Side) (old new : PlainBook) → SameBeside side old new → IsBeside side old → IsBeside side new
still_beside First old new h is = h.other ∙ is
still_beside (Second first) old new h is = (is.0 ∙ ap₂ first_accepted (sym h.genesis) (sym h.other), is.1)

-- a block that clashes with no block of either history
none_another : (kept : List KeptBlock) (root : List ℕ) (b : BeaconBlock) (test : Bool) → is_another (option_map (λ (k : KeptBlock). k.block) (block_of kept root)) b ≡ test → clash_among kept root b ≡ None → test ≡ false
unfolding clash_among
none_another kept root b true is none = absurd (cc (rw is at none))
none_another kept root b false is none = refl

no_clash : (kept : List KeptBlock) (root : List ℕ) (b : BeaconBlock) → is_another (option_map (λ (k : KeptBlock). k.block) (block_of kept root)) b ≡ false → clash_among kept root b ≡ None
unfolding clash_among
no_clash kept root b is = rw is refl

pub none_among : (root : List ℕ) (b : BeaconBlock) → None ≡ clash_among [] root b
unfolding clash_among block_of is_another
none_among root b = refl

pub none_beside : (side : Side) (root : List ℕ) (b : BeaconBlock) → side ≡ First → None ≡ clash_among (others_of side) root b
none_beside side root b is = rw is (none_among root b)

kept_on : (genesis : PlainState) (b : AcceptedBlock) (earlier : List AcceptedBlock) (root : List ℕ) (k : KeptBlock) (test : Bool) → is_kept (first_accepted genesis earlier) b.root ≡ test → block_of (first_accepted genesis earlier) root ≡ Some k
    → block_of (first_accepted genesis (b ∷ earlier)) root ≡ Some k
unfolding first_accepted
kept_on genesis b earlier root k true is found = rw is found
kept_on genesis b earlier root k false is found = rw is (block_more (first_accepted genesis earlier) (kept_block b ∷ []) root k found)

begins_with_genesis : (genesis : PlainState) (history : List AcceptedBlock) (root : List ℕ) (k : KeptBlock) → block_of (first_accepted genesis []) root ≡ Some k → block_of (first_accepted genesis history) root ≡ Some k
begins_with_genesis genesis [] root k found = found
begins_with_genesis genesis (b ∷ earlier) root k found = kept_on genesis b earlier root k (is_kept (first_accepted genesis earlier) b.root) refl (begins_with_genesis genesis earlier root k found)

nothing_else : (b : BeaconBlock) → is_another None b ≡ false
unfolding is_another
nothing_else b = refl

genesis_clear_by : (genesis : PlainState) (history : List AcceptedBlock) (root : List ℕ) (b : BeaconBlock) (found : Option KeptBlock) → block_of (first_accepted genesis []) root ≡ found → clash_among (first_accepted genesis history) root b ≡ None
    → clash_among (first_accepted genesis []) root b ≡ None
genesis_clear_by genesis history root b (Some k) is none =
    let here : block_of (first_accepted genesis history) root ≡ Some k = begins_with_genesis genesis history root k is in
    let same : is_another (option_map (λ (k : KeptBlock). k.block) (block_of (first_accepted genesis []) root)) b ≡ is_another (option_map (λ (k : KeptBlock). k.block) (block_of (first_accepted genesis history) root)) b =
    ap (λ (o : Option KeptBlock). is_another (option_map (λ (k : KeptBlock). k.block) o) b) (is ∙ sym here) in
    no_clash (first_accepted genesis []) root b (same ∙ none_another (first_accepted genesis history) root b _ refl none)
genesis_clear_by genesis history root b None is none = no_clash (first_accepted genesis []) root b (rw is (nothing_else b))

pub genesis_clear : (genesis : PlainState) (history : List AcceptedBlock) (root : List ℕ) (b : BeaconBlock) → clash_among (first_accepted genesis history) root b ≡ None → clash_among (first_accepted genesis []) root b ≡ None
genesis_clear genesis history root b none = genesis_clear_by genesis history root b (block_of (first_accepted genesis []) root) refl none

pub clear_of_both : (genesis : PlainState) (first second : List AcceptedBlock) (root : List ℕ) (b : BeaconBlock) → clash_among (first_accepted genesis first) root b ≡ None → clash_among (first_accepted genesis second) root b ≡ None
    → clash_with genesis first second root b ≡ None
unfolding clash_with first_or_second
clear_of_both genesis first second root b x y = rw (x, y) refl

pub clear_in : (side : Side) (book : PlainBook) (root : List ℕ) (b : BeaconBlock) → IsBeside side book → clash_among (first_accepted book.genesis (history_of book (which_of side))) root b ≡ None → clash_among (others_of side) root b ≡ None
    → clash_in book root b ≡ None
unfolding history_of
clear_in First book root b is own others =
    clear_of_both book.genesis book.first book.second root b own (rw is (genesis_clear book.genesis book.first root b own))
clear_in (Second first) book root b is own others = clear_of_both book.genesis book.first book.second root b (rw (← is.0) others) own

-- the book with a block more
pub added_beside : (side : Side) (old new : PlainBook) (b : AcceptedBlock) → new ≡ with_block old (which_of side) b → SameBeside side old new
unfolding with_block
added_beside First old new b is = record { config = ap (λ (book : PlainBook). book.config) is; genesis = ap (λ (book : PlainBook). book.genesis) is; other = ap (λ (book : PlainBook). book.second) is }
added_beside (Second first) old new b is = record { config = ap (λ (book : PlainBook). book.config) is; genesis = ap (λ (book : PlainBook). book.genesis) is; other = ap (λ (book : PlainBook). book.first) is }

pub added_history : (side : Side) (old new : PlainBook) (b : AcceptedBlock) → new ≡ with_block old (which_of side) b → history_of new (which_of side) ≡ b ∷ history_of old (which_of side)
unfolding with_block history_of
added_history First old new b is = ap (λ (book : PlainBook). book.first) is
added_history (Second first) old new b is = ap (λ (book : PlainBook). book.second) is

pub none_of_second : (side : Side) (book : PlainBook) → IsBeside side book → which_of side ≡ 0 → book.second ≡ []
none_of_second First book is zero = is
none_of_second (Second first) book is zero = absurd (omega (arith, zero))

-- ---- the outside

-- the source stopped
pub stop_outside : (side : Side) (stop : SourceStop) {s t : ShelfTold} → SourceStopsBy {T = Unit {0}} (Err stop) s.faults t.faults → ShelfKeeps [] s t → FollowsOutside {T = Unit {0}} [] (Err (no_event_of (which_of side) stop)) s t
stop_outside side (stops.Fault event fault) h keeps = record { shelf = keeps; read = λ is. cc; others = (λ is. cc, λ is. cc, λ is. cc) }
stop_outside side (stops.Limit event bound) h keeps = record { shelf = keeps; read = λ is. cc; others = (λ is. cc, λ is. cc, λ is. cc) }
stop_outside side stops.ReadFault h keeps = record { shelf = keeps; read = λ is. h.1; others = (λ is. cc, λ is. cc, λ is. cc) }
stop_outside side stops.NoMemory h keeps = record { shelf = keeps; read = λ is. cc; others = (λ is. cc, λ is. cc, λ is. cc) }

-- the run ended at an event
pub inside_only : (status : Status) {s t : ShelfTold} → IsInside status → ShelfKeeps [] s t → FollowsOutside {T = Unit {0}} [] (Err status) s t
inside_only status h keeps = record { shelf = keeps; read = λ is. absurd (h.read is); others = (h.words, h.write, h.done) }

-- what was followed before
pub outside_behind : {T : Type 0} (names more : List (List ℕ)) (result : Result T Status) {s t u : ShelfTold} → ShelfKeeps names s t → FollowsOutside more result t u → FollowsOutside (names ++ more) result s u
outside_behind names more (Ok v) h k = record { shelf = keeps_then names more h k.shelf; read = tt; others = tt }
outside_behind names more (Err status) {s} {t} {u} h k = record { shelf = keeps_then names more h k.shelf; read = λ is. rose_behind s.faults t.faults u.faults h.faults (k.read is); others = k.others }

-- the record could not be opened
pub unopened_outside : (names : List (List ℕ)) (trouble : Trouble) {s t : ShelfTold} → FailsOnlyBy {T = Unit {0}} (Err trouble) s.faults t.faults → ShelfKeeps names s t → FollowsOutside {T = Unit {0}} names (Err (unread trouble)) s t
unopened_outside names troubles.Failed h keeps = record { shelf = keeps; read = λ is. h.1; others = (λ is. cc, λ is. cc, λ is. cc) }
unopened_outside names troubles.NoMemory h keeps = record { shelf = keeps; read = λ is. cc; others = (λ is. cc, λ is. cc, λ is. cc) }

-- ---- what goes on

-- the store follows what it followed, where only the book's other history counts
pub still_following : (side : Side) (genesis : PlainState) (old_store new_store : Store) (old new : PlainBook) → IsFollowing side genesis old_store old → SameBeside side old new → Follows old.config old.genesis (history_of new (which_of side)) new_store → IsFollowing side genesis new_store new
unfolding history_of
still_following side genesis old_store new_store old new is same follows = record {
  genesis_is = same.genesis ∙ is.genesis_is;
  follows = rw (same.config, ← is.genesis_is) follows;
  beside = still_beside side old new same is.beside;
}

-- ---- an accepted block

-- the block and the state that the store keeps of its root are those of the added one
kept_parts : (blocks : List KeptBlock) (root : List ℕ) (kept : KeptBlock) (b : BeaconBlock) (state : PlainState) → block_of blocks root ≡ Some kept → Some b ≡ option_map (λ (k : KeptBlock). k.block) (block_of blocks root)
    → Some state ≡ option_map (λ (k : KeptBlock). k.state) (block_of blocks root) → (b ≡ kept.block) × (state ≡ kept.state)
kept_parts blocks root kept b state found b_is state_is =
    let of_block : Some b ≡ Some kept.block = b_is ∙ ap (option_map (λ (k : KeptBlock). k.block)) found in
    let of_state : Some state ≡ Some kept.state = state_is ∙ ap (option_map (λ (k : KeptBlock). k.state)) found in
    (cc, cc)

module _ (side : Side) (number : ℕ) (store : Store) (given : BlockIn) (old : PlainBook) (added : IsAdded old.config old.genesis (history_of old (which_of side)) store number given) (b : BeaconBlock) (state : PlainState) (root : List ℕ)
    (root_is : root ≡ given.root) (block_is : Some b ≡ option_map (λ (k : KeptBlock). k.block) (block_of store.blocks given.root)) (state_is : Some state ≡ option_map (λ (k : KeptBlock). k.state) (block_of store.blocks given.root)) where
  parts : (b ≡ added.kept.block) × (state ≡ added.kept.state)
  parts = kept_parts store.blocks given.root added.kept b state added.found block_is state_is

  -- it is compared with the others
  pub compared : (found : Option ℕ) → found ≡ clash_among (others_of side) root b → clash_of_accepted (others_of side) store (block given) ≡ found
  unfolding clash_of_accepted
  compared found is =
      ap (option_and_then (λ (kept : KeptBlock). clash_among (others_of side) given.root kept.block)) added.found ∙ sym (is ∙ ap₂ (clash_among (others_of side)) root_is parts.0)

  -- and then it may go to the book
  pub is_clear : IsBeside side old → None ≡ clash_among (others_of side) root b → clash_in old root b ≡ None
  is_clear beside none = clear_in side old root b beside (ap₂ (clash_among (first_accepted old.genesis (history_of old (which_of side)))) root_is parts.0 ∙ added.clear) (sym none)

  module _ (new : PlainBook) (entered : List PlainState) (entered_is : entered ≡ given.entered) (is : new ≡ with_block old (which_of side) (record { event = number; root = root; block = b; state = state; entered = entered })) where
    abbrev one_more : AcceptedBlock
    one_more = record { event = number; root = root; block = b; state = state; entered = entered }

    abbrev one_added : AcceptedBlock
    one_added = record { event = number; root = given.root; block = added.kept.block; state = added.kept.state; entered = given.entered }

    same_added : one_more ≡ one_added
    same_added = rw (root_is, parts.0, parts.1, entered_is) refl

    -- where it is the latest one
    pub block_added : None ≡ clash_among (others_of side) root b → BlockFollowed side number store given old new
    block_added none = record {
      clear = compared None none;
      history = added_history side old new one_more is ∙ ap (λ (x : AcceptedBlock). x ∷ history_of old (which_of side)) same_added ∙ sym (added_event old.config old.genesis (history_of old (which_of side)) store given number added);
    }

-- ---- an event that the store accepted

-- the watch was shown the states of the block
pub watch_saw : (genesis : PlainState) (book : PlainBook) (new seen : PlainWatch) (states : List PlainState) → book.genesis ≡ genesis → new ≡ record { genesis = genesis; entered = [] } → seen ≡ shown_all with_entered new states
    → seen ≡ record { genesis = book.genesis; entered = states }
watch_saw genesis book new seen states same begins saw =
    saw ∙ ap (λ (w : PlainWatch). shown_all with_entered w states) begins ∙ watched genesis states ∙ ap (λ (g : PlainState). record { genesis = g; entered = states }) (sym same)

module _ (side : Side) (genesis : PlainState) (number kind : ℕ) (payload : List ℕ) (old_store store : Store) (old : PlainBook) (is : IsFollowing side genesis old_store old) (bytes : IsBytes payload) where
  pub block_to_add : (given : BlockIn) → on_event old_store kind payload ≡ accepted (store, block given) → IsAdded old.config old.genesis (history_of old (which_of side)) store number given
  unfolding history_of
  block_to_add given took = rw is.genesis_is (block_is_added old.config genesis (history_of old (which_of side)) old_store store kind payload given number is.follows bytes took)

  pub other_follows : on_event old_store kind payload ≡ accepted (store, other) → IsFollowing side genesis store old
  unfolding histories.with_event
  other_follows took = record {
    genesis_is = is.genesis_is;
    follows = event_followed old.config genesis (history_of old (which_of side)) old_store store kind payload other number is.follows bytes took;
    beside = is.beside;
  }

  module _ (given : BlockIn) (took : on_event old_store kind payload ≡ accepted (store, block given)) (new_store : Store) (new : PlainBook) (same_store : new_store ≡ store) where
    pub block_follows : (result : Result (Unit {0}) Status) → SameBeside side old new → IfOk result (λ _. BlockFollowed side number store given old new) → IfOk result (λ _. IsFollowing side genesis new_store new)
    unfolding history_of
    block_follows (Ok v) same followed =
        still_following side genesis old_store new_store old new is same
        (rw (same_store, followed.history, is.genesis_is) (event_followed old.config genesis (history_of old (which_of side)) old_store store kind payload (block given) number is.follows bytes took))
    block_follows (Err status) same followed = tt

    pub block_goes_on : (result : Result (Unit {0}) Status) → IfOk result (λ _. BlockFollowed side number store given old new)
        → IfOk result (λ _. EventFollowed (which_of side) (others_of side) number (followed_by side old_store old) (on_event old_store kind payload) (followed_by side new_store new))
    block_goes_on (Ok v) followed =
        rw same_store (block_followed (which_of side) (others_of side) number (followed_by side old_store old) (on_event old_store kind payload) store given (history_of new (which_of side)) took followed.clear followed.history)
    block_goes_on (Err status) followed = tt

    pub block_stops : (result : Result (Unit {0}) Status) → IfErr result (λ status. ClashesBy status (which_of side) number (clash_of_accepted (others_of side) store (block given)))
        → IfErr result (λ status. EventEnds status (which_of side) (others_of side) number (followed_by side old_store old) (on_event old_store kind payload))
    block_stops (Ok v) h = tt
    block_stops (Err status) h = block_ends (which_of side) (others_of side) number (followed_by side old_store old) (on_event old_store kind payload) status store given took h

    pub block_stops_inside : (result : Result (Unit {0}) Status) → IfErr result (λ status. ClashesBy status (which_of side) number (clash_of_accepted (others_of side) store (block given))) → IfErr result (λ status. IsInside status)
    block_stops_inside (Ok v) h = tt
    block_stops_inside (Err status) h = clash_is_inside status (which_of side) number (clash_of_accepted (others_of side) store (block given)) h
