-- The latest roots of a state, a root for each of so many slots: what stands where one more is set, and which epochs' first slots
-- are among them.
use Rattle.std.proofs.Common.{◌≡◌, ◌≢◌, ℕ, ◌+◌, ◌-◌, ◌*◌, ◌/◌, ◌%◌, ◌<◌, ◌≤◌, List, [], length, slice_set, sym, ap, subst, arith, inl, inr}
use Rattle.std.specs.Prelude.{slice_index_or}
use Rattle.std.proofs.lemmas.Bool.{cases_lt}
use Rattle.std.proofs.lemmas.List.{get_or-set_same, get_or-set_other}
use Rattle.std.proofs.Math.Nat.{div-add-mod, mod-lt, mul_comm}
use Rattle.spec_blocks.proofs.SoundHeads.{apart}

-- of a list in which one place was set, what stands at a place
pub set_root : (n : ℕ) (roots : List (List ℕ)) (root : List ℕ) (at slot : ℕ) (P : List ℕ → Type 0) → length roots ≡ n → 0 < n → slot < at + 1 → at < slot + n
    → (slot ≡ at → P root)
    → (slot < at → P (slice_index_or roots (slot % n) [])) → P (slice_index_or (slice_set roots (at % n) root) (slot % n) [])
set_root n roots root at slot P is some less near here before = elim (cases_lt slot at) [
  | inl earlier ↦
      let other : slot % n ≢ at % n = apart n slot at earlier near in
      subst P (sym (get_or-set_other roots (at % n) (slot % n) root [] other)) (before earlier)
  | inr late ↦
      let same : slot ≡ at = omega arith in
      let inside : at % n < length roots = let low : at % n < n = mod-lt at some in omega arith in
      subst (λ (k : ℕ). P (slice_index_or (slice_set roots (at % n) root) (k % n) [])) (sym same)
      (subst P (sym (get_or-set_same roots (at % n) root [] inside)) (here same))
]

-- the first slots of an epoch and of the one before it are among the latest ones
pub record IsRecent (n many slot epoch : ℕ) : Type 0 where
  pub less : epoch * n < slot + 1
  pub near : slot + 1 ≤ epoch * n + many

pub recent : (n many slot : ℕ) → 0 < n → n + n ≤ many → 1 < slot / n → IsRecent n many slot (slot / n) × IsRecent n many slot (slot / n - 1)
recent n many slot some room late =
    let epoch : ℕ = slot / n in
    let one : epoch ≡ (epoch - 1) + 1 = omega arith in
    let before : epoch * n ≡ ((epoch - 1) + 1) * n = ap (λ (k : ℕ). k * n) one in
    let parts = div-add-mod slot n in
    let low : slot % n < n = mod-lt slot some in
    let turned = mul_comm epoch n in
    (record { less = omega arith; near = omega arith }, record { less = omega arith; near = omega arith })
