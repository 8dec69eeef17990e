-- How a bisection goes, and how many steps are left of it.
use Rattle.std.proofs.Common.{◌≡◌, ℕ, zero, suc, ◌+◌, ◌-◌, ◌/◌, ◌^◌, ◌<◌, ◌≤◌, nat_le, List, length, get_or, sym, arith}
use Rattle.std.proofs.Math.Nat.{pow-suc}
use Rattle.std.proofs.lemmas.Bool.{le-leb, lt-leb}
use Rattle.std.proofs.lemmas.List.Sums.{position_or_len_is}
use Rattle.beacon_types.specs.declared.attestation_data.AttestationData.{AttestationData}
use Rattle.forensics.specs.Pairs.{target_at}
use Rattle.forensics.specs.Spans.{IsSorted, place_of}
use Rattle.forensics.proofs.Beside.{rises, place_is}

-- targets before the low place are earlier, and those from the high place on aren't
pub record IsBetween (contents : List AttestationData) (votes : List ℕ) (target low high : ℕ) : Type 0 where
  pub order : low ≤ high
  pub within : high ≤ length votes
  pub before : (k : ℕ) → k < low → target_at contents (get_or votes k 0) < target
  pub behind : (k : ℕ) → high ≤ k → k < length votes → target ≤ target_at contents (get_or votes k 0)

-- steps that are left of k, of which some were taken
pub record HasLeft (width begun now k : ℕ) : Type 0 where
  pub left : ℕ
  pub fits : width < 2 ^ left
  pub taken : now + left ≤ begun + k

pub record HasLeftOf (count width begun now : ℕ) : Type 0 where
  pub of : (k : ℕ) → count < 2 ^ k → HasLeft width begun now k

pub begins : (contents : List AttestationData) (votes : List ℕ) (target : ℕ) → IsBetween contents votes target 0 (length votes)
begins contents votes target = record {
  order = omega arith;
  within = omega arith;
  before = λ k less. absurd (omega arith);
  behind = λ k ge inside. absurd (omega arith);
}

pub none_taken : (count begun : ℕ) → HasLeftOf count (count - 0) begun begun
none_taken count begun = record { of = λ k fits. record { left = k; fits = omega arith; taken = omega arith } }

-- one step halves what is left
half : (left width smaller begun now later k : ℕ) → later ≡ now + 1 → 0 < width → smaller ≤ width / 2 → width < 2 ^ left → now + left ≤ begun + k → HasLeft smaller begun later k
half zero width smaller begun now later k one some small fits taken = absurd (omega arith)
half (suc left) width smaller begun now later k one some small fits taken = record { left = left; fits = (let e = pow-suc 2 left in omega arith); taken = omega arith }

pub one_taken : (count width smaller begun now later : ℕ) → later ≡ now + 1 → 0 < width → smaller ≤ width / 2 → HasLeftOf count width begun now → HasLeftOf count smaller begun later
one_taken count width smaller begun now later one some small h = record { of = λ k fits. let l = h.of k fits in half l.left width smaller begun now later k one some small l.fits l.taken }

pub all_taken : (count width begun now : ℕ) → HasLeftOf count width begun now → (k : ℕ) → count < 2 ^ k → now ≤ begun + k
all_taken count width begun now h k fits = let l = h.of k fits in let t = l.taken in omega arith

module _ (contents : List AttestationData) (votes : List ℕ) (target low high : ℕ) (sorted : IsSorted contents votes) (is : IsBetween contents votes target low high) where
  pub goes_up : (middle : ℕ) → low ≤ middle → middle < high → target_at contents (get_or votes middle 0) < target → IsBetween contents votes target (middle + 1) high
  goes_up middle ge less early =
      let w = is.within in
      record {
        order = omega arith;
        within = w;
        before = λ k below. let r = rises contents votes sorted k middle (omega arith) (omega arith) in omega (arith, r.0);
        behind = is.behind;
      }

  pub goes_down : (middle : ℕ) → low ≤ middle → middle < high → target ≤ target_at contents (get_or votes middle 0) → IsBetween contents votes target low middle
  goes_down middle ge less late =
      let w = is.within in
      record {
        order = omega arith;
        within = omega arith;
        before = is.before;
        behind = λ k above inside. let r = rises contents votes sorted middle k above inside in omega (arith, r.0);
      }

  pub ends : high ≤ low → low ≡ place_of contents votes target
  unfolding place_of
  ends done =
      let w = is.within in
      let o = is.order in
      sym (position_or_len_is (λ v. nat_le target (target_at contents v)) votes low 0 (omega arith)
      (λ k less. lt-leb target (target_at contents (get_or votes k 0)) (is.before k less))
      (λ inside. le-leb target (target_at contents (get_or votes low 0)) (is.behind low done inside)))

pub place_within : (contents : List AttestationData) (votes : List ℕ) (target place : ℕ) → IsSorted contents votes → place ≡ place_of contents votes target → place ≤ length votes
place_within contents votes target place sorted e = let p = place_is contents votes target sorted in let w = p.within in omega arith

pub ruleset bisecting = (begins, none_taken, all_taken, place_within)
