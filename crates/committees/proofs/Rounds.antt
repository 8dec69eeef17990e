-- Each round takes an index below count to one below count, and is its own inverse there. So the shuffled places of
-- all indices are all different, and each index is the shuffled place of one.
use Rattle.std.proofs.Common.{◌≡◌, ℕ, zero, suc, ◌+◌, ◌-◌, ◌%◌, ◌<◌, ◌≤◌, max, List, eqb, Bool, true, false, cond, refl, sym, ap, ◌∙◌, add-one, arith, inl, inr}
use Rattle.std.proofs.Math.Nat.{mod-eq_of_lt, add-mod_right, mod-lt}
use Rattle.std.proofs.lemmas.Bool.{cases_lt}
use Rattle.committees.specs.Shuffling.{pivot_of, bit_of, after_round, compute_shuffled_index}

-- the index that a round may put in the place of an index
abbrev pub flip_of : ℕ → ℕ → ℕ → ℕ
flip_of pivot count index = (pivot + count - index) % count

pub flip_low : (pivot count index : ℕ) → pivot < count → index ≤ pivot → flip_of pivot count index ≡ pivot - index
flip_low pivot count index below low =
    let e : pivot + count - index ≡ pivot - index + count = omega arith in
    rw (e, add-mod_right (pivot - index) count) (mod-eq_of_lt (omega arith))

pub flip_high : (pivot count index : ℕ) → pivot < index → index < count → flip_of pivot count index ≡ pivot + count - index
flip_high pivot count index high below = mod-eq_of_lt (omega arith)

pub flip_below : (pivot count index : ℕ) → index < count → flip_of pivot count index < count
flip_below pivot count index below = mod-lt _ (omega arith)

pub flip_twice : (pivot count index : ℕ) → pivot < count → index < count → flip_of pivot count (flip_of pivot count index) ≡ index
flip_twice pivot count index fits below = elim (cases_lt pivot index) [
  | inr low ↦ rw (flip_low pivot count index fits low, flip_low pivot count (pivot - index) fits (omega arith)) (omega arith)
  | inl high ↦ rw (flip_high pivot count index high below, flip_high pivot count (pivot + count - index) (omega arith) (omega arith)) (omega arith)
]

pub pivot_below : (seed : List ℕ) (round count : ℕ) → 0 < count → pivot_of seed round count < count
unfolding pivot_of
pivot_below seed round count some = mod-lt _ some

module _ (seed : List ℕ) (round count : ℕ) where
  -- a round, given its bit
  chosen : Bool → ℕ → ℕ
  chosen flips index = cond flips (flip_of (pivot_of seed round count) count index) index

  flips : ℕ → Bool
  flips index = eqb (bit_of seed round (max index (flip_of (pivot_of seed round count) count index))) 1

  after_is : (index : ℕ) → after_round seed round count index ≡ chosen (flips index) index
  unfolding after_round chosen flips
  after_is index = refl

  flips_same : (index : ℕ) → index < count → flips (flip_of (pivot_of seed round count) count index) ≡ flips index
  unfolding flips
  flips_same index below =
      let twice = flip_twice (pivot_of seed round count) count index (pivot_below seed round count (omega arith)) below in
      let same : max (flip_of (pivot_of seed round count) count index) index ≡ max index (flip_of (pivot_of seed round count) count index) = omega arith in
      rw (twice, same) refl

  chosen_below : (b : Bool) (index : ℕ) → index < count → chosen b index < count
  unfolding chosen
  chosen_below true index below = flip_below (pivot_of seed round count) count index below
  chosen_below false index below = below

  pub after_below : (index : ℕ) → index < count → after_round seed round count index < count
  after_below index below = rw (after_is index) (chosen_below (flips index) index below)

  -- an index above the pivot stays there
  chosen_above : (b : Bool) (index : ℕ) → pivot_of seed round count < index → index < count → pivot_of seed round count < chosen b index
  unfolding chosen
  chosen_above true index above below = omega (arith, flip_high (pivot_of seed round count) count index above below)
  chosen_above false index above below = above

  pub after_above : (index : ℕ) → pivot_of seed round count < index → index < count → pivot_of seed round count < after_round seed round count index
  after_above index above below = rw (after_is index) (chosen_above (flips index) index above below)

  chosen_twice : (b : Bool) (index : ℕ) → index < count → flips index ≡ b → chosen (flips (chosen b index)) (chosen b index) ≡ index
  unfolding chosen
  chosen_twice true index below is =
      rw (flips_same index below, is) (flip_twice (pivot_of seed round count) count index (pivot_below seed round count (omega arith)) below)
  chosen_twice false index below is = rw is refl

  pub after_twice : (index : ℕ) → index < count → after_round seed round count (after_round seed round count index) ≡ index
  after_twice index below =
      rw (after_is (after_round seed round count index), after_is index) (chosen_twice (flips index) index below refl)

  -- a round by its flip and its bit
  pub after_set : (index flip : ℕ) → flip_of (pivot_of seed round count) count index ≡ flip → bit_of seed round (max index flip) ≡ 1 → after_round seed round count index ≡ flip
  unfolding after_round
  after_set index flip is set = rw (is, set) refl

  pub after_clear : (index flip : ℕ) → flip_of (pivot_of seed round count) count index ≡ flip → bit_of seed round (max index flip) ≡ 0 → after_round seed round count index ≡ index
  unfolding after_round
  after_clear index flip is clear = rw (is, clear) refl

  -- where the flip is the index itself, the bit does not matter
  chosen_center : (b : Bool) (index : ℕ) → flip_of (pivot_of seed round count) count index ≡ index → chosen b index ≡ index
  unfolding chosen
  chosen_center true index is = is
  chosen_center false index is = refl

  pub after_center : (index : ℕ) → flip_of (pivot_of seed round count) count index ≡ index → after_round seed round count index ≡ index
  after_center index is = rw (after_is index) (chosen_center (flips index) index is)

module _ (seed : List ℕ) (count : ℕ) where
  pub place_below : (rounds index : ℕ) → index < count → compute_shuffled_index rounds index count seed < count
  unfolding compute_shuffled_index
  place_below zero index below = below
  place_below (suc round) index below =
      after_below seed round count (compute_shuffled_index round index count seed) (place_below round index below)

  pub place_next : (round index : ℕ) → 0 < round → after_round seed (round - 1) count (compute_shuffled_index (round - 1) index count seed) ≡ compute_shuffled_index round index count seed
  unfolding compute_shuffled_index
  place_next zero index some = absurd (omega arith)
  place_next (suc round) index some = let e : suc round - 1 ≡ round = omega arith in rw e refl

  pub place_after : (round index place : ℕ) → place ≡ compute_shuffled_index round index count seed → after_round seed round count place ≡ compute_shuffled_index (round + 1) index count seed
  unfolding compute_shuffled_index
  place_after round index place is = rw (add-one, is) refl

  pub place_first : (round index : ℕ) → round ≡ 0 → compute_shuffled_index round index count seed ≡ index
  unfolding compute_shuffled_index
  place_first round index is = rw is refl

  pub one_to_one : (rounds index other : ℕ) → index < count → other < count → compute_shuffled_index rounds other count seed ≡ compute_shuffled_index rounds index count seed → other ≡ index
  unfolding compute_shuffled_index
  one_to_one zero index other below other_below same = same
  one_to_one (suc round) index other below other_below same =
      one_to_one round index other below other_below
      (sym (after_twice seed round count (compute_shuffled_index round other count seed) (place_below round other other_below))
      ∙ ap (after_round seed round count) same
      ∙ after_twice seed round count (compute_shuffled_index round index count seed) (place_below round index below))

  -- the index whose shuffled place is this one
  unfoldable pub index_at : ℕ → ℕ → ℕ
  index_at zero place = place
  index_at (suc round) place = index_at round (after_round seed round count place)

  pub index_below : (rounds place : ℕ) → place < count → index_at rounds place < count
  unfolding index_at
  index_below zero place below = below
  index_below (suc round) place below = index_below round (after_round seed round count place) (after_below seed round count place below)

  pub place_at_index : (rounds place : ℕ) → place < count → compute_shuffled_index rounds (index_at rounds place) count seed ≡ place
  unfolding compute_shuffled_index index_at
  place_at_index zero place below = refl
  place_at_index (suc round) place below =
      ap (after_round seed round count) (place_at_index round (after_round seed round count place) (after_below seed round count place below))
      ∙ after_twice seed round count place below
