-- The committees of an epoch (beacon-chain.md, "compute_committee", "get_committee_count_per_slot" and
-- "get_beacon_committee"). An active list holds the indices of the validators active at the epoch, in order.
use Rattle.std.specs.Prelude.{◌≡◌, ◌<◌, ℕ, ◌+◌, ◌-◌, ◌*◌, ◌/◌, ◌%◌, min, max, List, [], length, map, slice_index, slice_index_or, slice_get, Option}
use Rattle.std.specs.List.{range_with_len, sum_by}
use Rattle.bc_preset.specs.declared.presets.Preset.{Preset}
use Rattle.committees.specs.Shuffling.{compute_shuffled_index}

-- get_committee_count_per_slot, by the number of active validators
unfoldable pub committee_count_per_slot : Preset → ℕ → ℕ
committee_count_per_slot preset active_count =
    max 1 (min preset.max_committees_per_slot (active_count / preset.slots_per_epoch / preset.target_committee_size))

-- where the committee with an index, of count, begins among so many shuffled indices
unfoldable pub committee_start : ℕ → ℕ → ℕ → ℕ
committee_start index_count count index = index_count * index / count

-- compute_committee, with so many rounds of the shuffle: the indices at the shuffled indices of its part
unfoldable pub compute_committee : ℕ → List ℕ → List ℕ → ℕ → ℕ → List ℕ
compute_committee rounds indices seed index count =
    let start : ℕ = committee_start (length indices) count index in
    let end : ℕ = committee_start (length indices) count (index + 1) in
    map (λ i. slice_index indices (compute_shuffled_index rounds i (length indices) seed)) (range_with_len start (end - start))

-- the committees of some epoch: how many a slot has, how many slots there are, and all of them in order
pub record Committees : Type 0 where
  pub per_slot : ℕ
  pub slots : ℕ
  pub all : List (List ℕ)

-- the committees of an epoch with this active list and seed
unfoldable pub committees_of : Preset → List ℕ → List ℕ → Committees
committees_of preset seed active =
    let per_slot : ℕ = committee_count_per_slot preset (length active) in
    let count : ℕ = per_slot * preset.slots_per_epoch in
    record {
      per_slot = per_slot;
      slots = preset.slots_per_epoch;
      all = map (λ index. compute_committee preset.shuffle_round_count active seed index count) (range_with_len 0 count);
    }

-- how many members all of them have together
unfoldable pub member_count : Committees → ℕ
member_count committees = sum_by (λ committee. length committee) committees.all

-- the committee of a slot with an index, if the epoch has it
unfoldable pub committee_at : Committees → ℕ → ℕ → Option (List ℕ)
committee_at committees slot index = slice_get committees.all (slot % committees.slots * committees.per_slot + index)

-- a member stands at a position of the committee with an index
pub record StandsAt (committees : List (List ℕ)) (index position member : ℕ) : Type 0 where
  pub committee : index < length committees
  pub place_in : position < length (slice_index_or committees index [])
  pub member_is : slice_index (slice_index_or committees index []) position ≡ member

-- Each validator of the active list stands in a committee, a validator stands at one position of one committee alone,
-- and nobody else stands in any
pub record StandOnce (active : List ℕ) (committees : List (List ℕ)) : Type 0 where
  pub each : (i : ℕ) → i < length active → (index : ℕ) × (position : ℕ) × StandsAt committees index position (slice_index active i)
  pub once : (index position other_index other_position member : ℕ) → StandsAt committees index position member → StandsAt committees other_index other_position member → (index ≡ other_index) × (position ≡ other_position)
  pub only : (index position member : ℕ) → StandsAt committees index position member → (i : ℕ) × (i < length active) × (slice_index active i ≡ member)

-- no validator is in a list twice
pub record IsWithoutRepeats (active : List ℕ) : Type 0 where
  pub once : (i j : ℕ) → i < length active → j < length active → slice_index active i ≡ slice_index active j → i ≡ j
