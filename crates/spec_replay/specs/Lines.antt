-- The text of the lines that a run writes. A text is the list of its bytes.
use Rattle.std.specs.Prelude.{ℕ, List, [], ◌∷◌, ◌++◌, codes, ◌==◌, if◌then◌else◌}
use Rattle.std.specs.Fmt.{decimal}
use Rattle.hex.specs.Hex.{encode_lower}
use Rattle.bc_words.specs.Refusals.{number_of, name_of}
use Rattle.bc_words.specs.declared.refusal.Refusal.{Refusal}
use Rattle.beacon_types.specs.declared.checkpoint.Checkpoint.{Checkpoint}
use Rattle.spec_fork_choice.specs.Store.{Store}
use Rattle.spec_fork_choice.specs.GetHead.{get_head}
use Rattle.spec_fork_choice.specs.OnEvent.{Accepted, block, other}

-- a root: `0x` and its 64 lower-case hexadecimal digits
unfoldable pub root_text : List ℕ → List ℕ
root_text root = codes "0x" ++ encode_lower root

-- a checkpoint: its epoch in decimal, `:`, its root
unfoldable pub checkpoint_text : Checkpoint → List ℕ
checkpoint_text checkpoint = decimal checkpoint.epoch ++ (codes ":" ++ root_text checkpoint.root)

-- `refused`, the refusal's number and its name
unfoldable pub refusal_text : Refusal → List ℕ
refusal_text refusal = codes "refused " ++ (decimal (number_of refusal) ++ (codes " " ++ name_of refusal))

-- the words before the roots of an accepted block
unfoldable pub block_label : List ℕ
block_label = codes "accepted root="

unfoldable pub state_label : List ℕ
state_label = codes " state="

-- `accepted`, and for a block its root and the root of the state behind it
unfoldable pub accepted_text : Accepted → List ℕ
accepted_text other = codes "accepted"
accepted_text (block b) = block_label ++ (root_text b.root ++ (state_label ++ root_text b.state_root))

-- the word of an event's kind
unfoldable pub kind_text : ℕ → List ℕ
kind_text kind =
    if kind == 1 then codes " tick "
    else if kind == 2 then codes " block "
    else if kind == 3 then codes " wire "
    else if kind == 5 then codes " slashing "
    else codes " carried "

-- the words before the head and the two checkpoints
unfoldable pub head_label : List ℕ
head_label = codes " head="

unfoldable pub justified_label : List ℕ
justified_label = codes " justified="

unfoldable pub finalized_label : List ℕ
finalized_label = codes " finalized="

-- the store's head and its two checkpoints
unfoldable pub store_text : Store → List ℕ
store_text store =
    head_label ++ (root_text (get_head store)
    ++ (justified_label ++ (checkpoint_text store.justified_checkpoint
    ++ (finalized_label ++ checkpoint_text store.finalized_checkpoint))))

-- the line of an event: its number, its kind, what became of it, and the store after it
unfoldable pub event_line : ℕ → ℕ → List ℕ → Store → List ℕ
event_line event kind outcome after = decimal event ++ (kind_text kind ++ (outcome ++ (store_text after ++ 10 ∷ [])))
