-- Items whose bytes stand in three lists of one length.
use Rattle.std.proofs.Common.{◌≡◌, ℕ, ◌+◌, ◌-◌, ◌<◌, ◌≤◌, List, ◌++◌, Vec, length, slice_index, take, drop, refl, sym, ap, ◌∙◌, arith, inl, inr}
use Rattle.std.proofs.Common.{append-nil, drop_at, take_all, length-take-le, length-drop}
use borrow.Rule.Slice.PartMut.{put_mid, mid_of}
use Rattle.std.specs.Simd.Lanes.{zip2}
use Rattle.std.specs.Vec.{with_items}
use Rattle.std.proofs.lemmas.Bool.{cases_lt}
use Rattle.std.proofs.lemmas.List.{get_or_past, ext_get_or, with_items_is, drop_all}
use Rattle.std.proofs.lemmas.Simd.{length-zip2, get_or-zip2}
use Rattle.committees.specs.inside.Pass.{Passed}
use Rattle.committees.specs.inside.Planes.{with_above, from_planes}

above_at : (bytes above : List ℕ) → length bytes ≡ length above → (k : ℕ) → slice_index (zip2 with_above bytes above) k ≡ with_above (slice_index bytes k) (slice_index above k)
above_at bytes above same k = elim (cases_lt k (length bytes)) [
  | inl less ↦ get_or-zip2 with_above bytes above k 0 0 0 less (omega arith)
  | inr more ↦
      let n = length-zip2 with_above bytes above same in
      rw (get_or_past (zip2 with_above bytes above) k 0 (omega arith), get_or_past bytes k 0 more, get_or_past above k 0 (omega arith)) refl
]

module _ (low middle high : List ℕ) (second : length low ≡ length middle) (third : length low ≡ length high) where
  pub from_planes_length : length (from_planes low middle high) ≡ length low
  unfolding from_planes
  from_planes_length = length-zip2 with_above low (zip2 with_above middle high) (second ∙ sym (length-zip2 with_above middle high (sym second ∙ third)))

  pub from_planes_at : (k : ℕ) → slice_index (from_planes low middle high) k ≡ with_above (slice_index low k) (with_above (slice_index middle k) (slice_index high k))
  unfolding from_planes
  from_planes_at k = above_at low (zip2 with_above middle high) (second ∙ sym (length-zip2 with_above middle high (sym second ∙ third))) k
      ∙ ap (with_above (slice_index low k)) (above_at middle high (sym second ∙ third) k)

  pub from_planes_is : (items : List ℕ) → length items ≡ length low → ((k : ℕ) → k < length low → with_above (slice_index low k) (with_above (slice_index middle k) (slice_index high k)) ≡ slice_index items k) → from_planes low middle high ≡ items
  from_planes_is items long each = ext_get_or 0 (from_planes low middle high) items (from_planes_length ∙ sym long) (λ k less. from_planes_at k ∙ each k (omega (arith, from_planes_length)))

-- what stands behind the unused bytes, as a part that is written
pub behind_is : (xs : List ℕ) → mid_of 2048 (length xs - 2048) xs ≡ drop 2048 xs
behind_is xs = take_all (length xs - 2048) (drop 2048 xs) (omega (arith, length-drop 2048 xs))

pub behind_length : (xs : List ℕ) (n : ℕ) → length xs ≡ 2048 + n → length (drop 2048 xs) ≡ n
behind_length xs n long = omega (arith, long, length-drop 2048 xs)

pub behind_written : (xs ys : List ℕ) → 2048 ≤ length xs → drop 2048 (put_mid 2048 (length xs - 2048) xs ys) ≡ ys
behind_written xs ys more =
    drop_at (take 2048 xs) _ 2048 (length-take-le 2048 xs more)
    ∙ ap (λ l. ys ++ l) (drop_all (length xs - 2048) (drop 2048 xs) (omega (arith, length-drop 2048 xs)))
    ∙ append-nil ys

-- lists of bytes that were written as a whole
pub from_planes_written : {Z : Type 0} (low middle high : Vec ℕ Z) (one two three : List ℕ)
    → length one ≡ low.len → length two ≡ middle.len → length three ≡ high.len
    → from_planes (with_items low one).items (drop 2048 (with_items middle two).items) (with_items high three).items ≡ from_planes one (drop 2048 two) three
from_planes_written low middle high one two three a b c =
    ap (λ n. from_planes n (drop 2048 (with_items middle two).items) (with_items high three).items) (with_items_is low one a)
    ∙ ap (λ n. from_planes one (drop 2048 n) (with_items high three).items) (with_items_is middle two b)
    ∙ ap (from_planes one (drop 2048 two)) (with_items_is high three c)

-- there are as many items as bytes in each list
pub joined_as_long : (low middle high low_new middle_new high_new : List ℕ)
    → length low ≡ length middle → length low ≡ length high → length low_new ≡ length middle_new → length low_new ≡ length high_new
    → length low_new ≡ length low → length (from_planes low_new middle_new high_new) ≡ length (from_planes low middle high)
joined_as_long low middle high low_new middle_new high_new s t s_new t_new same =
    from_planes_length low_new middle_new high_new s_new t_new ∙ same ∙ sym (from_planes_length low middle high s t)

-- items whose bytes passed have passed
pub joined_passed : (take : ℕ → ℕ) (sum first last : ℕ) (low middle high low_new middle_new high_new : List ℕ)
    → length low ≡ length middle → length low ≡ length high → length low_new ≡ length middle_new → length low_new ≡ length high_new
    → Passed take sum first last low low_new → Passed take sum first last middle middle_new → Passed take sum first last high high_new
    → Passed take sum first last (from_planes low middle high) (from_planes low_new middle_new high_new)
joined_passed take sum first last low middle high low_new middle_new high_new s t s_new t_new one two three = record {
  inside = λ place more less. from_planes_at low_new middle_new high_new s_new t_new place
      ∙ ap (λ n. with_above n (with_above (slice_index middle_new place) (slice_index high_new place))) (one.inside place more less)
      ∙ ap (λ n. with_above (slice_index low (take place)) (with_above n (slice_index high_new place))) (two.inside place more less)
      ∙ ap (λ n. with_above (slice_index low (take place)) (with_above (slice_index middle (take place)) n)) (three.inside place more less)
      ∙ sym (from_planes_at low middle high s t (take place));
  outside = λ place out. from_planes_at low_new middle_new high_new s_new t_new place
      ∙ ap (λ n. with_above n (with_above (slice_index middle_new place) (slice_index high_new place))) (one.outside place out)
      ∙ ap (λ n. with_above (slice_index low place) (with_above n (slice_index high_new place))) (two.outside place out)
      ∙ ap (λ n. with_above (slice_index low place) (with_above (slice_index middle place) n)) (three.outside place out)
      ∙ sym (from_planes_at low middle high s t place);
}
