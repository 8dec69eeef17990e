-- Whether somebody attested, by how many validators are active.
use Rattle.std.specs.Prelude.{ℕ, ◌+◌, ◌-◌, ◌*◌, ◌%◌, Bool, List, length, nat_lt, ◌==◌, if◌then◌else◌}
use Rattle.std.specs.List.{list_any}
use Rattle.bc_words.specs.Outcome.{Outcome, done, refused}
use Rattle.bc_words.specs.declared.refusal.Refusal.TheVariants.{AtIndex, AtBits}
use Rattle.bc_preset.specs.declared.presets.Preset.{Preset}
use Rattle.committees.specs.Committees.{committee_count_per_slot, committee_start}
use Rattle.spec_blocks.specs.Checks.{check, ◌>>◌}

-- how many members the committee of a slot with an index has
unfoldable pub committee_len : Preset → ℕ → ℕ → ℕ → ℕ
committee_len preset active slot index =
    let per_slot : ℕ = committee_count_per_slot preset active in
    let count : ℕ = per_slot * preset.slots_per_epoch in
    let first : ℕ = slot % preset.slots_per_epoch * per_slot + index in
    committee_start active count (first + 1) - committee_start active count first

-- whether one of the bits is set, of which there are as many as the committee has members
abbrev pub attested_with : ℕ → List Bool → Outcome Bool
attested_with members bits = do
  check (length bits == members) AtBits
  done (list_any (λ bit. bit) bits)

-- whether somebody attested in the committee of the slot with an index, where so many validators are active
abbrev pub attested_among : Preset → ℕ → ℕ → ℕ → List Bool → Outcome Bool
attested_among preset active slot index bits = if nat_lt index (committee_count_per_slot preset active) then attested_with (committee_len preset active slot index) bits else refused AtIndex
