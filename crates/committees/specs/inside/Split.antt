-- How the code keeps the committees of an epoch: one list of members, which is cut.
use Rattle.std.specs.Prelude.{ℕ, ◌+◌, ◌*◌, List, length, map, slice_range}
use Rattle.std.specs.List.{range_with_len}
use Rattle.committees.specs.Committees.{Committees, committee_start}

-- a list cut into so many parts, as committees are
unfoldable pub split_evenly : List ℕ → ℕ → List (List ℕ)
split_evenly members count =
    map (λ index. slice_range members (committee_start (length members) count index) (committee_start (length members) count (index + 1))) (range_with_len 0 count)

-- the committees that so many a slot make of a list of members
abbrev pub split_committees : ℕ → ℕ → List ℕ → Committees
split_committees per_slot slots members = record { per_slot = per_slot; slots = slots; all = split_evenly members (per_slot * slots) }
