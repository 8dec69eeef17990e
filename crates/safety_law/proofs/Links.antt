-- The links that the ends of a chain's epochs made: they stand at their slots, and their validators voted for them.
use Rattle.std.proofs.Common.{◌≡◌, ℕ, ◌*◌, inl, inr, Bool, true, false, if◌then◌else◌, nat_eq, List, [], ◌∷◌, refl, subst}
use Rattle.std.specs.List.{AllByRecursion, list_any}
use Rattle.std.proofs.lemmas.Bool.{eqb-true, eq-eqb}
use Rattle.spec_state.specs.declared.plain.PlainState.{PlainState}
use Rattle.ffg_law.specs.declared.link.Link.{Link}
use Rattle.ffg_law.specs.Weights.{among}
use Rattle.ffg_law.specs.Links.{Voted, links_of, IsOneOf}
use Rattle.ffg_law.specs.Histories.{EpochEnd, have_enough, previous_link, current_link, made_from}
use Rattle.vote_law.specs.Backed.{Votes}
use Rattle.vote_law.specs.Runs.{Places, HasVoted, IsGoodEnd}

pub record IsGoodLink (genesis : PlainState) (votes : Votes) (stands : Places) (v : Voted) : Type 0 where
  pub root : stands (v.link.target.epoch * genesis.preset.slots_per_epoch) v.link.target.root
  pub voters : (i : ℕ) → among v.validators i ≡ true → HasVoted genesis votes v.link i

-- ---- the set that a list names

any_first : (x : ℕ) (xs : List ℕ) (i : ℕ) (same : Bool) → nat_eq x i ≡ same → list_any (λ k. nat_eq k i) (x ∷ xs) ≡ true → (list_any (λ k. nat_eq k i) xs ≡ true → IsOneOf i xs) → IsOneOf i (x ∷ xs)
any_first x xs i true is h rest = inl (eqb-true x i is)
any_first x xs i false is h rest = inr (rest (rw is at h))

any_is : (xs : List ℕ) (i : ℕ) → list_any (λ k. nat_eq k i) xs ≡ true → IsOneOf i xs
any_is [] i h = absurd cc
any_is (x ∷ xs) i h = any_first x xs i (nat_eq x i) refl h (any_is xs i)

among_is : (xs : List ℕ) (i : ℕ) → among xs i ≡ true → IsOneOf i xs
unfolding among
among_is xs i h = any_is xs i h

any_later : (x : ℕ) (xs : List ℕ) (i : ℕ) (same : Bool) → nat_eq x i ≡ same → list_any (λ k. nat_eq k i) xs ≡ true → list_any (λ k. nat_eq k i) (x ∷ xs) ≡ true
any_later x xs i true is h = rw is refl
any_later x xs i false is h = rw is h

any_of : (xs : List ℕ) (i : ℕ) → IsOneOf i xs → list_any (λ k. nat_eq k i) xs ≡ true
any_of [] i h = absurd h
any_of (x ∷ xs) i (inl e) = rw (eq-eqb x i e) refl
any_of (x ∷ xs) i (inr h) = any_later x xs i (nat_eq x i) refl (any_of xs i h)

pub among_of : (xs : List ℕ) (i : ℕ) → IsOneOf i xs → among xs i ≡ true
unfolding among
among_of xs i h = any_of xs i h

-- ---- made links

with_either : (P : Voted → Type 0) (enough : Bool) (v : Voted) (votes : List Voted) → P v → AllByRecursion P votes → AllByRecursion P (if enough then v ∷ votes else votes)
with_either P true v votes one all = (one, all)
with_either P false v votes one all = all

pub made_good : (increment : ℕ) (weights : List ℕ) (genesis : PlainState) (votes : Votes) (stands : Places) (limit : ℕ) (ends : List EpochEnd) (made : List Voted)
    → AllByRecursion (IsGoodLink genesis votes stands) made → AllByRecursion (IsGoodEnd genesis votes stands limit) ends → AllByRecursion (IsGoodLink genesis votes stands) (made_from increment weights made ends)
made_good increment weights genesis votes stands limit [] made before good = before
made_good increment weights genesis votes stands limit (x ∷ xs) made before good =
    let P : Voted → Type 0 = IsGoodLink genesis votes stands in
    let first : P (previous_link x) = record { root = good.0.previous_root; voters = λ i h. good.0.previous_voters i (among_is x.previous i h) } in
    let second : P (current_link x) = record { root = good.0.current_root; voters = λ i h. good.0.current_voters i (among_is x.current i h) } in
    made_good increment weights genesis votes stands limit xs _
    (with_either P (have_enough increment weights x.current) (current_link x) _ second (with_either P (have_enough increment weights x.previous) (previous_link x) made first before)) good.1

-- the targets of all links stand at their slots
pub targets_stand : (genesis : PlainState) (votes : Votes) (stands : Places) (made : List Voted) (l : Link) → AllByRecursion (IsGoodLink genesis votes stands) made → IsOneOf l (links_of made)
    → stands (l.target.epoch * genesis.preset.slots_per_epoch) l.target.root
targets_stand genesis votes stands [] l good h = absurd h
targets_stand genesis votes stands (v ∷ vs) l good (inl e) = subst (λ (k : Link). stands (k.target.epoch * genesis.preset.slots_per_epoch) k.target.root) e good.0.root
targets_stand genesis votes stands (v ∷ vs) l good (inr h) = targets_stand genesis votes stands vs l good.1 h
