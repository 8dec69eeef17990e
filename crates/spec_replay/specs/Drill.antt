-- A run of `drill`: the chain that is made by a number goes to a store as the events of a record do, and six lines say what became of it.
-- Then the two chains of the maker's split are followed as the records of `forensic` are, and two lines say what is found of them.
use Rattle.std.specs.Prelude.{ℕ, ◌+◌, List, [], ◌∷◌, ◌++◌, length, Option, Some, None, Result, Ok, Err, codes, nat_lt, if◌then◌else◌}
use Rattle.std.specs.Fmt.{decimal}
use Rattle.hex.specs.Hex.{encode_lower}
use Rattle.hash_tree.specs.Merkle.{hash}
use Rattle.bc_preset.specs.Configs.{config_of}
use Rattle.bc_preset.specs.declared.configuration.ConfigValues.{ConfigValues}
use Rattle.bc_preset.specs.declared.faults.ConfigFault.{ConfigFault}
use Rattle.bc_preset.specs.declared.faults.ConfigFault.TheVariants.{OutOfRange}
use Rattle.bc_preset.specs.declared.keys.Key.TheVariants.{EjectionBalance}
use Rattle.bc_words.specs.Events.{EventOutcome, accepted, event_refused, event_limited, event_clashes}
use Rattle.bc_words.specs.declared.store_stop.ClashKind.{ClashKind}
use Rattle.record_file.specs.Record.{Events}
use Rattle.record_file.specs.declared.event.Event.{Event}
use Rattle.spec_state.specs.declared.plain.PlainState.{PlainState}
use Rattle.spec_fork_choice.specs.Store.{Store}
use Rattle.spec_fork_choice.specs.GetHead.{get_head}
use Rattle.spec_fork_choice.specs.GetForkchoiceStore.{genesis_store}
use Rattle.spec_fork_choice.specs.OnEvent.{Accepted, on_event, genesis_clash}
use Rattle.spec_drill.specs.Plan.{Plan}
use Rattle.spec_drill.specs.MakeGenesis.{genesis_of_plan}
use Rattle.spec_drill.specs.Make.{made}
use Rattle.spec_drill.specs.AsEvents.{events_to_come}
use Rattle.spec_forensics.specs.Clash.{first_accepted}
use Rattle.spec_forensics.specs.Verdict.{offences_of}
use Rattle.spec_replay.specs.Forensic.{Followed, follow, verdict_line, verdict_on}
use Rattle.spec_replay.specs.Lines.{root_text, checkpoint_text}
use Rattle.spec_replay.specs.Run.{Run, End, done, bad_config, clash, over, missing, after_file, with_events}

-- a store, how many events were handed to it, and how many of them it accepted
pub record Tally : Type 0 where
  pub store : Store
  pub events : ℕ
  pub accepted : ℕ

-- what they are behind an event, of which the store's handler gives this
abbrev pub with_outcome : Tally → EventOutcome (Store × Accepted) → Tally
with_outcome tally (accepted new) = record { store = new.0; events = tally.events + 1; accepted = tally.accepted + 1 }
with_outcome tally (event_refused why) = record { store = tally.store; events = tally.events + 1; accepted = tally.accepted }
with_outcome tally (event_limited bound) = tally
with_outcome tally (event_clashes kind) = tally

-- what they are behind these events, one after the other
unfoldable pub tally_of : Tally → List Event → Tally
tally_of tally [] = tally
tally_of tally (event ∷ events) = tally_of (with_outcome tally (on_event tally.store event.kind event.payload)) events

-- a line of two words
unfoldable pub line_of : List ℕ → List ℕ → List ℕ
line_of name value = name ++ (codes " " ++ (value ++ 10 ∷ []))

-- the six lines: how many events there are and how many were accepted, the store's head and its two checkpoints behind them, and
-- the digest of the lines that a run of a record writes
unfoldable pub six_lines : Tally → List ℕ → List ℕ
six_lines tally digest =
    line_of (codes "events") (decimal tally.events)
    ++ (line_of (codes "accepted") (decimal tally.accepted)
    ++ (line_of (codes "head") (root_text (get_head tally.store))
    ++ (line_of (codes "justified") (checkpoint_text tally.store.justified_checkpoint)
    ++ (line_of (codes "finalized") (checkpoint_text tally.store.finalized_checkpoint)
    ++ line_of (codes "lines") (encode_lower digest)))))

-- the two lines of the split: how many offenders there are, and the verdict
unfoldable pub two_lines : PlainState → Followed → Followed → List ℕ
two_lines genesis first second =
    line_of (codes "offenders") (decimal (length (offences_of genesis first.history second.history)))
    ++ verdict_line (verdict_on genesis first second)

-- both chains of the split were followed, unless the second ended the run
unfoldable pub behind_second : PlainState → Followed → Result Followed End → Result (List ℕ) End
behind_second genesis first (Err end) = Err end
behind_second genesis first (Ok second) = Ok (two_lines genesis first second)

-- the first was followed, unless it ended the run, and then the second, whose blocks are compared with those of the first
unfoldable pub behind_first : PlainState → Store → Result Followed End → Events → Result (List ℕ) End
behind_first genesis store (Err end) second = Err end
behind_first genesis store (Ok first) second = behind_second genesis first (follow 1 (first_accepted genesis first.history) store second)

-- the two lines of two chains of these events, each on a store of its own at genesis, or how they end the run
unfoldable pub split_lines : PlainState → Store → Events → Events → Result (List ℕ) End
split_lines genesis store first second = behind_first genesis store (follow 0 [] store first) second

-- all lines, where both the chain and its split came to their end
unfoldable pub with_split : Option End → List ℕ → Result (List ℕ) End → Run
with_split (Some done) lines (Ok more) = record { lines = lines ++ more; end = Some done; files = 0 }
with_split (Some done) lines (Err end) = over end
with_split end lines split = record { lines = []; end = end; files = 0 }

-- the chains that a number makes, as events: the one of the maker itself, and the two of its split
pub record Chains : Type 0 where
  pub own : Events
  pub first : Events
  pub second : Events

-- The chains on stores at genesis: the own one ends as a record of it does, and the digest is SHA-256 of all lines of that record's run
unfoldable pub drill_events : PlainState → Store → Chains → Run
drill_events genesis store chains =
    let replayed : Run = with_events 1 store chains.own in
    with_split replayed.end (six_lines (tally_of (record { store = store; events = 0; accepted = 0 }) chains.own.events) (hash replayed.lines))
    (split_lines genesis store chains.first chains.second)

-- the stores at genesis, unless the genesis block clashes
unfoldable pub drill_store : Option ClashKind → PlainState → Store → Chains → Run
drill_store (Some kind) genesis store chains = over (clash 0 0 kind 0)
drill_store None genesis store chains = drill_events genesis store chains

-- the chains of a plan
unfoldable pub chains_of : Plan → Chains
chains_of plan = record {
  own = events_to_come 0 (made plan);
  first = events_to_come 0 (made (record plan { which = Some 0 }));
  second = events_to_come 0 (made (record plan { which = Some 1 }));
}

unfoldable pub drill_plan : Plan → Run
drill_plan plan = drill_store (genesis_clash (genesis_of_plan plan)) (genesis_of_plan plan) (genesis_store plan.config (genesis_of_plan plan)) (chains_of plan)

-- the configuration, or its first fault; and then it must not eject a validator with the full balance
unfoldable pub drill_config : ℕ → Result ConfigValues ConfigFault → Run
drill_config number (Err reason) = over (bad_config reason)
drill_config number (Ok config) =
    if nat_lt config.ejection_balance 32_000_000_000 then drill_plan (record { config = config; number = number; which = None })
    else over (bad_config (OutOfRange EjectionBalance))

-- the configuration's file, if it is there
unfoldable pub drill_run : ℕ → Option (List ℕ) → Run
drill_run number None = missing
drill_run number (Some bytes) = after_file (drill_config number (config_of bytes))
