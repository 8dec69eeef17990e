-- The run of `nodes NUMBER COUNT CONFIG`: nodes, each with a store of its own, are delivered the events of the two chains of a maker's
-- split, some late and some twice. A line for each node says what became of its events, and a line for each pair of nodes what is found
-- of their histories.
use Rattle.std.specs.Prelude.{ℕ, ◌%◌, List, [], ◌∷◌, ◌++◌, map, length, flat_map, codes, nat_lt, ◌==◌, Option, Some, None, Result, Ok, Err, if◌then◌else◌}
use Rattle.std.specs.Fmt.{decimal}
use Rattle.std.specs.List.{range_with_len}
use Rattle.std.specs.Option.{option_map, option_or}
use Rattle.hex.specs.Hex.{encode_lower}
use Rattle.hash_tree.specs.Merkle.{hash}
use Rattle.bc_preset.specs.Configs.{config_of}
use Rattle.bc_preset.specs.declared.configuration.ConfigValues.{ConfigValues}
use Rattle.bc_preset.specs.declared.faults.ConfigFault.{ConfigFault}
use Rattle.bc_preset.specs.declared.faults.ConfigFault.TheVariants.{OutOfRange}
use Rattle.bc_preset.specs.declared.keys.Key.TheVariants.{EjectionBalance}
use Rattle.bc_words.specs.declared.store_stop.ClashKind.{ClashKind}
use Rattle.bc_words.specs.declared.store_stop.ClashKind.TheVariants.{Kept}
use Rattle.record_file.specs.Record.{Events}
use Rattle.record_file.specs.Record as record_file
use Rattle.record_file.specs.declared.event.Event.{Event}
use Rattle.spec_state.specs.declared.plain.PlainState.{PlainState}
use Rattle.spec_fork_choice.specs.Store.{KeptBlock, Store}
use Rattle.spec_fork_choice.specs.GetHead.{get_head}
use Rattle.spec_fork_choice.specs.GetForkchoiceStore.{genesis_store}
use Rattle.spec_fork_choice.specs.OnEvent.{genesis_clash}
use Rattle.spec_drill.specs.Plan.{Plan}
use Rattle.spec_drill.specs.MakeGenesis.{genesis_of_plan}
use Rattle.spec_drill.specs.Make.{made}
use Rattle.spec_drill.specs.AsEvents.{events_to_come}
use Rattle.node_drill.specs.Deliveries.{delivered}
use Rattle.spec_forensics.specs.Histories.{AcceptedBlock}
use Rattle.spec_forensics.specs.Clash.{clash_among, first_accepted}
use Rattle.spec_forensics.specs.Verdict.{offences_of}
use Rattle.spec_forensics.specs.declared.verdict.Verdict.{Verdict}
use Rattle.spec_replay.specs.Drill.{Tally, tally_of}
use Rattle.spec_replay.specs.Forensic.{Followed, follow, verdict_line, verdict_on}
use Rattle.spec_replay.specs.Lines.{root_text, checkpoint_text}
use Rattle.spec_replay.specs.Run.{Run, End, done, bad_config, clash, over, missing, after_file, record_end, with_events}

-- ---- values that may end the run

-- a value more in front, unless it or one of the others ends the run
unfoldable pub and_others : {A : Type 0} → Result A End → Result (List A) End → Result (List A) End
and_others (Err end) others = Err end
and_others (Ok value) (Err end) = Err end
and_others (Ok value) (Ok values) = Ok (value ∷ values)

-- all values, or what the first that ends the run ends it with
unfoldable pub all_or_end : {A : Type 0} → List (Result A End) → Result (List A) End
all_or_end [] = Ok []
all_or_end (one ∷ others) = and_others one (all_or_end others)

-- ---- a node

-- its number, the events that it was delivered, and the store and the history that they left
pub record Node : Type 0 where
  pub number : ℕ
  pub events : List Event
  pub followed : Followed

-- a node with an even number is delivered the events of the first chain, and one with an odd number those of the second
unfoldable pub chain_of_node : ℕ → List Event → List Event → List Event
chain_of_node node first second = if node % 2 == 0 then first else second

-- these events, with nothing behind them
abbrev pub all_of : List Event → Events
all_of events = record { events = events; end = record_file.done }

-- the node that followed its events, unless they ended the run
unfoldable pub followed_by : ℕ → List Event → Result Followed End → Result Node End
followed_by node events (Err end) = Err end
followed_by node events (Ok followed) = Ok (record { number = node; events = events; followed = followed })

-- the node of a number, on a store of its own at genesis. What it is delivered is as a record of which it is the only one
unfoldable pub node_of : ℕ → Store → List Event → List Event → ℕ → Result Node End
node_of number store first second node =
    let events : List Event = delivered number node (chain_of_node node first second) in
    followed_by node events (follow node [] store (all_of events))

-- the words of a node's number and of its counts
unfoldable pub counts_text : ℕ → ℕ → ℕ → List ℕ
counts_text number events accepted = codes "node " ++ (decimal number ++ (codes " events " ++ (decimal events ++ (codes " accepted " ++ decimal accepted))))

-- the words of the head and the checkpoints of its store
unfoldable pub ends_text : Store → List ℕ
ends_text store =
    codes " head " ++ (root_text (get_head store)
    ++ (codes " justified " ++ (checkpoint_text store.justified_checkpoint
    ++ (codes " finalized " ++ checkpoint_text store.finalized_checkpoint))))

-- all of them, and a digest
unfoldable pub node_text : ℕ → ℕ → ℕ → Store → List ℕ → List ℕ
node_text number events accepted store digest = counts_text number events accepted ++ (ends_text store ++ (codes " lines " ++ (encode_lower digest ++ 10 ∷ [])))

-- The line of a node: how many events it was delivered and how many of them were accepted, the head and the checkpoints of its store
-- behind them, and SHA-256 of the lines that a run of a record of them writes
unfoldable pub node_line : Store → Node → List ℕ
node_line store node =
    let tally : Tally = tally_of (record { store = store; events = 0; accepted = 0 }) node.events in
    node_text node.number (length node.events) tally.accepted tally.store (hash (with_events 1 store (all_of node.events)).lines)

-- ---- a pair of nodes

-- the pairs of a list's items, each with those behind it
unfoldable pub pairs_of : {A : Type 0} → List A → List (A × A)
pairs_of [] = []
pairs_of (item ∷ later) = map (λ other. (item, other)) later ++ pairs_of later

-- the first event of a history whose block has the root of one of these blocks and another content, with that block's place. The
-- history has its latest block first
unfoldable pub first_clash : List KeptBlock → List AcceptedBlock → Option (ℕ × ℕ)
first_clash others [] = None
first_clash others (b ∷ earlier) = option_or (first_clash others earlier) (option_map (λ place. (b.event, place)) (clash_among others b.root b.block))

-- the words of a pair's numbers and of how many offenders there are, and the line of a verdict
unfoldable pub pair_text : ℕ → ℕ → ℕ → Verdict → List ℕ
pair_text first second offenders verdict =
    codes "pair " ++ (decimal first ++ (codes " " ++ (decimal second ++ (codes " offenders " ++ (decimal offenders ++ (codes " " ++ verdict_line verdict))))))

-- the line of a pair: what is found of both histories
unfoldable pub pair_line : PlainState → Node × Node → List ℕ
pair_line genesis pair =
    pair_text pair.0.number pair.1.number (length (offences_of genesis pair.0.followed.history pair.1.followed.history)) (verdict_on genesis pair.0.followed pair.1.followed)

-- a line, unless this event of the second node has a block that clashes with one of the first, at this place
unfoldable pub unless_pair_clashes : ℕ → ℕ → Option (ℕ × ℕ) → List ℕ → Result (List ℕ) End
unless_pair_clashes first second (Some at) line = Err (clash second at.0 (Kept at.1) first)
unless_pair_clashes first second None line = Ok line

unfoldable pub pair_of : PlainState → Node × Node → Result (List ℕ) End
pair_of genesis pair =
    unless_pair_clashes pair.0.number pair.1.number (first_clash (first_accepted genesis pair.0.followed.history) pair.1.followed.history) (pair_line genesis pair)

-- ---- the run

-- all lines, unless a pair ended the run
unfoldable pub with_pairs : List ℕ → Result (List (List ℕ)) End → Run
with_pairs lines (Err end) = over end
with_pairs lines (Ok more) = record { lines = lines ++ flat_map (λ line. line) more; end = Some done; files = 0 }

-- the nodes' lines and then those of their pairs, unless a node ended the run
unfoldable pub with_nodes : PlainState → Store → Result (List Node) End → Run
with_nodes genesis store (Err end) = over end
with_nodes genesis store (Ok nodes) = with_pairs (flat_map (node_line store) nodes) (all_or_end (map (pair_of genesis) (pairs_of nodes)))

-- the nodes in turn, so many of them
unfoldable pub nodes_on : ℕ → ℕ → PlainState → Store → List Event → List Event → Run
nodes_on number count genesis store first second =
    with_nodes genesis store (all_or_end (map (node_of number store first second) (range_with_len 0 count)))

-- what comes behind events that end so, if they end well
unfoldable pub behind_events : End → Run → Run
behind_events done run = run
behind_events end run = over end

-- the events of both chains, the first one's before the second's, and then the nodes
unfoldable pub nodes_of_chains : ℕ → ℕ → PlainState → Store → Events → Events → Run
nodes_of_chains number count genesis store first second =
    behind_events (record_end 0 first.end) (behind_events (record_end 1 second.end) (nodes_on number count genesis store first.events second.events))

-- the stores at genesis, unless the genesis block clashes
unfoldable pub nodes_store : Option ClashKind → ℕ → ℕ → PlainState → Store → Events → Events → Run
nodes_store (Some kind) number count genesis store first second = over (clash 0 0 kind 0)
nodes_store None number count genesis store first second = nodes_of_chains number count genesis store first second

-- the events of a chain of a plan's split
abbrev pub split_events : Plan → ℕ → Events
split_events plan which = events_to_come 0 (made (record plan { which = Some which }))

unfoldable pub nodes_plan : ℕ → Plan → Run
nodes_plan count plan =
    nodes_store (genesis_clash (genesis_of_plan plan)) plan.number count (genesis_of_plan plan) (genesis_store plan.config (genesis_of_plan plan)) (split_events plan 0) (split_events plan 1)

-- the configuration, or its first fault; and then it must not eject a validator with the full balance
unfoldable pub nodes_config : ℕ → ℕ → Result ConfigValues ConfigFault → Run
nodes_config number count (Err reason) = over (bad_config reason)
nodes_config number count (Ok config) =
    if nat_lt config.ejection_balance 32_000_000_000 then nodes_plan count (record { config = config; number = number; which = None })
    else over (bad_config (OutOfRange EjectionBalance))

-- the configuration's file, if it is there
unfoldable pub nodes_run : ℕ → ℕ → Option (List ℕ) → Run
nodes_run number count None = missing
nodes_run number count (Some bytes) = after_file (nodes_config number count (config_of bytes))
