-- Slot by slot, and in a slot index by index.
use Rattle.std.proofs.Common.{◌≡◌, ◌<◌, ◌≤◌, ◌-◌, ◌+◌, ℕ, suc, List, [], ◌++◌, map, refl, ap, arith}
use Rattle.std.specs.Prelude.{flat_map, unwrap_or}
use Rattle.std.specs.List.{range_with_len}
use Rattle.committees.specs.Committees.{Committees, committee_at}
use Rattle.duties.specs.Duties.{CommitteeDuty}
use Rattle.spec_replay.specs.Duties.{committee_line}

-- the duty of a committee with an index
abbrev pub duty_at : Committees → ℕ → ℕ → CommitteeDuty
duty_at committees slot index = record { slot = slot; index = index; members = unwrap_or (committee_at committees slot index) [] }

-- the lines of so many committees of a slot, the first of which has this index
abbrev pub committee_lines_from : Committees → ℕ → ℕ → ℕ → List ℕ
committee_lines_from committees slot index count = flat_map committee_line (map (duty_at committees slot) (range_with_len index count))

one_less : (i end : ℕ) → i < end → end - i ≡ suc (end - (i + 1))
one_less i end less = omega (arith, less)

-- the first of them, and those behind it
pub first_committee : (committees : Committees) (slot index end : ℕ) → index < end
    → committee_lines_from committees slot index (end - index) ≡ committee_line (duty_at committees slot index) ++ committee_lines_from committees slot (index + 1) (end - (index + 1))
first_committee committees slot index end less = ap (committee_lines_from committees slot index) (one_less index end less)

pub no_committee : (committees : Committees) (slot index end : ℕ) → end ≤ index → committee_lines_from committees slot index (end - index) ≡ []
no_committee committees slot index end past = let none : end - index ≡ 0 = omega (arith, past) in rw none refl

-- numbers in a row, one by one
pub first_of : (lines : ℕ → List ℕ) (i end : ℕ) → i < end → flat_map lines (range_with_len i (end - i)) ≡ lines i ++ flat_map lines (range_with_len (i + 1) (end - (i + 1)))
first_of lines i end less = ap (λ n. flat_map lines (range_with_len i n)) (one_less i end less)

pub none_of : (lines : ℕ → List ℕ) (i end : ℕ) → end ≤ i → flat_map lines (range_with_len i (end - i)) ≡ []
none_of lines i end past = let none : end - i ≡ 0 = omega (arith, past) in rw none refl
