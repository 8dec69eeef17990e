-- Justification and finalisation over plain data (beacon-chain.md, "weigh_justification_and_finalization"). The roots
-- are those of the blocks at the beginning of the previous and of the current epoch. Epochs end long before 2 ^ 64, so
-- their sums fit; the products of balances are refused where they do not.
use Rattle.std.specs.Prelude.{ℕ, ◌+◌, ◌-◌, Bool, true, false, ◌&&◌, List, ◌∷◌, take, slice_index_or, slice_set, leb, ◌==◌, if◌then◌else◌}
use Rattle.bc_words.specs.Outcome.{Outcome, done, ◌>>=◌, checked_mul}
use Rattle.beacon_types.specs.declared.checkpoint.Checkpoint.{Checkpoint}
use Rattle.spec_epochs.specs.declared.justification.Justification.{Justification}

-- whether a part of the total is at least two thirds of it
unfoldable pub reaches_two_thirds : ℕ → ℕ → Outcome Bool
reaches_two_thirds part total = checked_mul part 3 >>= λ thrice. checked_mul total 2 >>= λ twice. done (leb twice thrice)

-- Whether the epoch that is so many before the current one is justified
abbrev pub bit : List Bool → ℕ → Bool
bit bits back = slice_index_or bits back false

-- An epoch more has passed: what was justified last becomes what was justified before, and each bit moves up a place
unfoldable pub shifted : Justification → Justification
shifted j = record j { bits = false ∷ take 3 j.bits; previous = j.current }

-- The epoch that is so many before the current one is justified, by this checkpoint
abbrev pub justified : Justification → ℕ → Checkpoint → Justification
justified j back checkpoint = record j { bits = slice_set j.bits back true; current = checkpoint }

-- the same where the attesters of its block have two thirds of the total
unfoldable pub justified_where : Bool → Justification → ℕ → Checkpoint → Justification
justified_where enough j back checkpoint = if enough then justified j back checkpoint else j

-- The four cases of finalisation, the later ones assigned last. `old_previous` and `old_current` were justified before
-- this epoch was processed
unfoldable pub finalized_by : List Bool → ℕ → Checkpoint → Checkpoint → Checkpoint → Checkpoint
finalized_by bits epoch old_previous old_current finalized =
    -- the second, third and fourth latest epochs are justified, the second with the fourth as its source
    let first : Checkpoint = if bit bits 1 && bit bits 2 && bit bits 3 && (old_previous.epoch + 3 == epoch) then old_previous else finalized in
    -- the second and third latest epochs are justified, the second with the third as its source
    let second : Checkpoint = if bit bits 1 && bit bits 2 && (old_previous.epoch + 2 == epoch) then old_previous else first in
    -- the first, second and third latest epochs are justified, the first with the third as its source
    let third : Checkpoint = if bit bits 0 && bit bits 1 && bit bits 2 && (old_current.epoch + 2 == epoch) then old_current else second in
    -- the first and second latest epochs are justified, the first with the second as its source
    if bit bits 0 && bit bits 1 && (old_current.epoch + 1 == epoch) then old_current else third

-- the record with what is finalised by its bits
unfoldable pub finalizing : Justification → ℕ → Checkpoint → Checkpoint → Justification
finalizing j epoch old_previous old_current =
    record j { finalized = finalized_by j.bits epoch old_previous old_current j.finalized }

-- the previous epoch; at epoch 0 it is epoch 0
abbrev pub previous_of : ℕ → ℕ
previous_of epoch = epoch - 1

-- What becomes of the record at the end of an epoch, by the total of the active balance and the balances of the
-- attesters of the two epochs' blocks
unfoldable pub weigh : Justification → ℕ → List ℕ → List ℕ → ℕ → ℕ → ℕ → Outcome Justification
weigh j epoch previous_root current_root total previous current =
    reaches_two_thirds previous total >>= λ previous_enough.
    let after_previous : Justification = justified_where previous_enough (shifted j) 1 (record { epoch = previous_of epoch; root = previous_root }) in
    reaches_two_thirds current total >>= λ current_enough.
    let after_current : Justification = justified_where current_enough after_previous 0 (record { epoch = epoch; root = current_root }) in
    done (finalizing after_current epoch j.previous j.current)
