-- Two histories of five epochs over four validators of equal weight: the first finalises epoch 2, the second epoch 5.
use Rattle.std.specs.Prelude.{ℕ, true, false, List, [], ◌∷◌, replicate}
use Rattle.beacon_types.specs.declared.checkpoint.Checkpoint.{Checkpoint}
use Rattle.spec_epochs.specs.declared.justification.Justification.{Justification}
use Rattle.ffg_law.specs.Histories.{EpochEnd, genesis_checkpoint, nothing_justified}

-- ten for each of four validators
abbrev pub four_weights : List ℕ
four_weights = replicate 4 10

abbrev pub first_voters : List ℕ
first_voters = 0 ∷ 1 ∷ 2 ∷ []

abbrev pub second_voters : List ℕ
second_voters = 1 ∷ 2 ∷ 3 ∷ []

-- the roots of all blocks of each chain
abbrev pub first_root : List ℕ
first_root = replicate 32 1

abbrev pub second_root : List ℕ
second_root = replicate 32 2

abbrev pub of_first : ℕ → Checkpoint
of_first epoch = record { epoch = epoch; root = first_root }

abbrev pub of_second : ℕ → Checkpoint
of_second epoch = record { epoch = epoch; root = second_root }

-- bits and checkpoints behind the ends of these epochs
abbrev pub first_2 : Justification
first_2 = record { bits = true ∷ false ∷ false ∷ false ∷ []; previous = genesis_checkpoint; current = (of_first 2); finalized = genesis_checkpoint }

abbrev pub first_3 : Justification
first_3 = record { bits = true ∷ true ∷ false ∷ false ∷ []; previous = (of_first 2); current = (of_first 3); finalized = (of_first 2) }

abbrev pub first_4 : Justification
first_4 = record { bits = false ∷ true ∷ true ∷ false ∷ []; previous = (of_first 3); current = (of_first 3); finalized = (of_first 2) }

abbrev pub first_5 : Justification
first_5 = record { bits = false ∷ false ∷ true ∷ true ∷ []; previous = (of_first 3); current = (of_first 3); finalized = (of_first 2) }

abbrev pub first_6 : Justification
first_6 = record { bits = false ∷ false ∷ false ∷ true ∷ []; previous = (of_first 3); current = (of_first 3); finalized = (of_first 2) }

abbrev pub second_5 : Justification
second_5 = record { bits = true ∷ false ∷ false ∷ false ∷ []; previous = genesis_checkpoint; current = (of_second 5); finalized = genesis_checkpoint }

abbrev pub second_6 : Justification
second_6 = record { bits = true ∷ true ∷ false ∷ false ∷ []; previous = (of_second 5); current = (of_second 6); finalized = (of_second 5) }

-- three of four vote for epochs 2 and 3
abbrev pub first_history : List EpochEnd
first_history =
    (record { before = nothing_justified; epoch = 2; previous_root = first_root; current_root = first_root; previous = []; current = first_voters; after = first_2 })
    ∷ (record { before = first_2; epoch = 3; previous_root = first_root; current_root = first_root; previous = []; current = first_voters; after = first_3 })
    ∷ (record { before = first_3; epoch = 4; previous_root = first_root; current_root = first_root; previous = []; current = []; after = first_4 })
    ∷ (record { before = first_4; epoch = 5; previous_root = first_root; current_root = first_root; previous = []; current = []; after = first_5 })
    ∷ (record { before = first_5; epoch = 6; previous_root = first_root; current_root = first_root; previous = []; current = []; after = first_6 })
    ∷ []

-- three of four vote for epochs 5 and 6
abbrev pub second_history : List EpochEnd
second_history =
    (record { before = nothing_justified; epoch = 2; previous_root = second_root; current_root = second_root; previous = []; current = []; after = nothing_justified })
    ∷ (record { before = nothing_justified; epoch = 3; previous_root = second_root; current_root = second_root; previous = []; current = []; after = nothing_justified })
    ∷ (record { before = nothing_justified; epoch = 4; previous_root = second_root; current_root = second_root; previous = []; current = []; after = nothing_justified })
    ∷ (record { before = nothing_justified; epoch = 5; previous_root = second_root; current_root = second_root; previous = []; current = second_voters; after = second_5 })
    ∷ (record { before = second_5; epoch = 6; previous_root = second_root; current_root = second_root; previous = []; current = second_voters; after = second_6 })
    ∷ []
