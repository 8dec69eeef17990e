-- Nodes that are delivered the events of two made chains: what was done of a node's events, and what its blocks stand for.
use Rattle.std.specs.Prelude.{◌≡◌, ℕ, ◌+◌, ◌<◌, ◌^◌, false, List, [], ◌∷◌, ◌++◌, All, flat_map, length, map, reverse, Some, None, Result, Ok, Err}
use Rattle.bc_preset.specs.declared.configuration.ConfigValues.{ConfigValues}
use Rattle.bc_words.specs.Events.{EventOutcome, event_limited, event_clashes}
use Rattle.record_file.specs.Record as record_file
use Rattle.record_file.specs.Record.{Events}
use Rattle.record_file.specs.declared.event.Event.{Event}
use Rattle.spec_state.specs.Genesis.{genesis_fault}
use Rattle.spec_state.specs.declared.plain.PlainState.{PlainState}
use Rattle.spec_fork_choice.specs.Store.{Store}
use Rattle.spec_fork_choice.specs.OnEvent.{Accepted, block, other}
use Rattle.spec_forensics.specs.Histories.{AcceptedBlock}
use Rattle.spec_forensics.specs.Clash.{clash_among, first_accepted}
use Rattle.spec_drill.specs.MakeGenesis.{genesis_of_plan}
use Rattle.spec_drill.specs.Maker.{new_maker}
use Rattle.spec_drill.specs.Plan.{Plan}
use Rattle.spec_replay.specs.Run.{End, done, record_end, replay_events}
use Rattle.spec_replay.specs.Drill.{Tally, tally_of}
use Rattle.spec_replay.specs.Forensic.{Followed, follow_events}
use Rattle.node_drill.specs.Deliveries.{delivered}
use Rattle.spec_replay.specs.Nodes.{Node, chain_of_node}
use Rattle.safety_law.specs.Follows.{Follows, IsAdded}
use Rattle.forensics.specs.Watches.{PlainWatch}
use Rattle.beacon_node.specs.declared.node.Node as code
use Rattle.beacon_node.specs.declared.node.NodeBlock.{NodeBlock}
use Rattle.beacon_node.specs.declared.node.Delivered.{Delivered}
use Rattle.beacon_node.specs.declared.nodes.Split.{Split}
use Rattle.one_chain.specs.declared.status.Status.{Status}
use Rattle.one_chain.specs.declared.status.Status.TheVariants as statuses
use Rattle.one_chain.specs.Answers.{breaks_off, end_of}
use Rattle.beacon_node.specs.inside.Following.{IsInside}

-- ---- a node's blocks

-- the accepted block that an entry stands for
abbrev pub added_of : NodeBlock → AcceptedBlock
added_of b = record { event = b.event; root = b.root; block = b.block.value; state = b.state; entered = b.watch.entered }

-- the history of entries; it has the latest block first
abbrev pub history_in : List NodeBlock → List AcceptedBlock
history_in blocks = reverse (map added_of blocks)

-- no block's root is a name for another block among those before it, genesis among them
abbrev pub AreClear : PlainState → List AcceptedBlock → Type 0
AreClear genesis [] = Unit {0}
AreClear genesis (b ∷ earlier) = (clash_among (first_accepted genesis earlier) b.root b.block ≡ None) × AreClear genesis earlier

-- What always holds of a node's entries.
pub record AreKept (genesis : PlainState) (blocks : List NodeBlock) : Type 0 where
  pub clear : AreClear genesis (history_in blocks)
  pub watches : All (λ b. b.watch.genesis ≡ genesis) blocks

-- An accepted event can be kept, behind which the store is this one: a block is added to the history, and the watch saw the states that
-- were entered on the way to it.
abbrev pub CanKeep : PlainState → List NodeBlock → Store → ℕ → PlainWatch → Accepted → Type 0
CanKeep genesis blocks store number watch other = Unit {0}
CanKeep genesis blocks store number watch (block given) = IsAdded store.config genesis (history_in blocks) store number given × (watch ≡ record { genesis = genesis; entered = given.entered })

-- What always holds of a node: its store follows the history that its entries stand for.
pub record IsNode (config : ConfigValues) (genesis : PlainState) (node : code.Node) : Type 0 where
  pub follows : Follows config genesis (history_in node.blocks.items) node.store.plain
  pub kept : AreKept genesis node.blocks.items

-- What holds of one that was delivered all of its events.
pub record HasRun (config : ConfigValues) (genesis : PlainState) (node : code.Node) : Type 0 where
  pub is : IsNode config genesis node
  pub few : length node.store.plain.blocks < 2 ^ 32

-- ---- its events

-- the store and the history of a node
abbrev pub followed_in : code.Node → Followed
followed_in node = record { store = node.store.plain; history = history_in node.blocks.items }

-- what is left behind the events that are to come, the first of which has this number
abbrev pub node_left : ℕ → code.Node → List Event → Result Followed End
node_left number node events = follow_events node.number [] number (followed_in node) events record_file.done

-- the lines of all of its events
abbrev pub lines_left : ℕ → code.Node → List Event → List ℕ
lines_left number node events = node.lines.items ++ (replay_events number node.store.plain events done).lines

-- and how many of them were accepted, with the store behind them
abbrev pub tally_left : ℕ → code.Node → List Event → Tally
tally_left given node events = tally_of (record { store = node.store.plain; events = given; accepted = node.accepted }) events

-- So many events were given before, and this one was taken. What comes of all events is what comes of those behind it.
pub record OneTaken (given : ℕ) (event : Event) (old new : code.Node) : Type 0 where
  pub number : new.number ≡ old.number
  pub left : (later : List Event) → node_left (given + 1) old (event ∷ later) ≡ node_left (given + 1 + 1) new later
  pub lines : (later : List Event) → lines_left (given + 1) old (event ∷ later) ≡ lines_left (given + 1 + 1) new later
  pub tally : (later : List Event) → tally_left given old (event ∷ later) ≡ tally_left (given + 1) new later

-- The run ends with this status, unless it was broken off.
abbrev pub NodeEnds : {A : Type 0} → Status → Result A End → Type 0
NodeEnds status left = breaks_off status ≡ false → (end : End) × (Some end ≡ end_of status) × (left ≡ Err end)

-- The run ends with this status at the event with this number of a node with that number: at a bound, a clash, or for want of memory.
abbrev pub StopsAt : Status → ℕ → ℕ → EventOutcome (Store × Accepted) → Type 0
StopsAt (statuses.Limit which event limit) node number outcome = (which ≡ node) × (event ≡ number) × (outcome ≡ event_limited limit)
StopsAt (statuses.Clash which event kind kept_which) node number outcome = (which ≡ node) × (event ≡ number) × (kept_which ≡ node) × (outcome ≡ event_clashes kind)
StopsAt statuses.NoMemory node number outcome = Unit {0}
StopsAt _ node number outcome = ⊥

-- One of the events of a chain with this number can't be made, or the run was broken off.
pub record EndsMaking (status : Status) (which : ℕ) (events : Events) : Type 0 where
  pub ends : breaks_off status ≡ false → Some (record_end which events.end) ≡ end_of status
  pub inside : IsInside status

-- a node as the definitions have it, which was delivered these events
abbrev pub plain_node : List Event → code.Node → Node
plain_node events node = record { number = node.number; events = events; followed = followed_in node }

-- and the one of a number, which was delivered what it gets of two chains
abbrev pub node_given : ℕ → List Event → List Event → Delivered → Node
node_given number first second given = plain_node (delivered number given.node.number (chain_of_node given.node.number first second)) given.node

-- ---- one after the other

-- these, and then others, unless they end the run
abbrev pub behind_ones : {A : Type 0} → List A → Result (List A) End → Result (List A) End
behind_ones ones (Ok more) = Ok (ones ++ more)
behind_ones ones (Err end) = Err end

-- So far these lines were made, one after the other, and this is left of all.
pub record LinesSoFar (lines : List ℕ) (left all : Result (List (List ℕ)) End) : Type 0 where
  pub made : List (List ℕ)
  pub are : lines ≡ flat_map (λ line. line) made
  pub all_is : all ≡ behind_ones made left

-- All lines were made, one after the other; or the run ends.
abbrev pub LinesTold : {V : Type 0} → (V → List ℕ) → Result V Status → Result (List (List ℕ)) End → Type 0
LinesTold items (Ok made) lines = (more : List (List ℕ)) × (lines ≡ Ok more) × (items made ≡ flat_map (λ line. line) more)
LinesTold items (Err status) lines = NodeEnds status lines

-- ---- the chains

-- The makers of a plan's split, which gave nothing yet, and the genesis of both.
pub record IsSplit (plan : Plan) (split : Split) : Type 0 where
  pub first : split.first ≡ new_maker (record plan { which = Some 0 })
  pub second : split.second ≡ new_maker (record plan { which = Some 1 })
  pub genesis : split.genesis ≡ genesis_of_plan plan
  pub passes : genesis_fault split.genesis ≡ None
