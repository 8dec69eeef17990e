-- The index of a registry that gets one validator more.
use Rattle.std.proofs.Common.{◌≡◌, ℕ, ◌+◌, ◌<◌, Bool, true, false, cond, List, [], ◌∷◌, ◌++◌, length, take, Option, Some, None, refl, sym, ap, subst, ◌∙◌, arith}
use Rattle.std.specs.List.{position, position_from}
use Rattle.std.specs.Option.{option_or}
use Rattle.std.specs.Prelude.{slice_get}
use Rattle.std.proofs.lemmas.Option.{slice_get_within, get_or_from_slice_get}
use Rattle.std.specs.Cmp.Lexicographic.{same_text, nat_list_eq_equiv}
use Rattle.std.proofs.lemmas.Iterator.Adapters.{position_from-zero}
use Rattle.std.proofs.lemmas.List.{take_more, length-take}
use Rattle.beacon_types.specs.declared.validator.Validator.{Validator}
use Rattle.spec_blocks.specs.ProcessDeposit.{same_pubkey, index_of_pubkey}
use Rattle.spec_blocks.proofs.Pubkeys.{index-push}
use Rattle.block_operations.specs.Indexes.{Indexes, index_in}
use Rattle.block_operations.specs.inside.Notes.{Adds, NotesBy, Notes}

-- a function has the first index of each key
abbrev AreFirst : (List ℕ → Option ℕ) → List Validator → Type 0
AreFirst keys vs = (q : List ℕ) → keys q ≡ index_of_pubkey vs q

-- nobody yet
pub nobody : (keys : List (List ℕ × ℕ)) → keys ≡ [] → Indexes keys []
unfolding index_of_pubkey
nobody keys none q = ap (λ (ks : List (List ℕ × ℕ)). index_in ks q) none

-- a validator whose key is there already
there_by : (a : Option ℕ) (b : Bool) (n : ℕ) → (a ≡ None → b ≡ true → ⊥) → a ≡ option_or a (cond b (Some n) None)
there_by (Some i) b n none = refl
there_by None true n none = elim (none refl refl) [ ]
there_by None false n none = refl

is_there : (keys : List ℕ → Option ℕ) (p q : List ℕ) (i : ℕ) → keys p ≡ Some i → keys q ≡ None → same_pubkey q p ≡ true → ⊥
is_there keys p q i there none same = let e : q ≡ p = same_text q p (sym same) in let k : keys q ≡ keys p = ap keys e in cc

pub there_already : (keys : List ℕ → Option ℕ) (vs : List Validator) (v : Validator) (i : ℕ) → AreFirst keys vs → keys v.pubkey ≡ Some i → AreFirst keys (vs ++ v ∷ [])
there_already keys vs v i indexes there q =
    there_by (keys q) (same_pubkey q v.pubkey) (length vs) (is_there keys v.pubkey q i there)
    ∙ ap (λ (o : Option ℕ). option_or o (cond (same_pubkey q v.pubkey) (Some (length vs)) None)) (indexes q)
    ∙ sym (index-push vs v q)

-- a validator with a new key
new_by : (a : Option ℕ) (b : Bool) (n : ℕ) → (b ≡ true → a ≡ None) → cond b (Some n) a ≡ option_or a (cond b (Some n) None)
new_by a true n none = ap (λ (o : Option ℕ). option_or o (Some n)) (sym (none refl))
new_by (Some i) false n none = refl
new_by None false n none = refl

is_new : (keys : List ℕ → Option ℕ) (p q : List ℕ) → keys p ≡ None → same_pubkey q p ≡ true → keys q ≡ None
is_new keys p q new same = ap keys (same_text q p (sym same)) ∙ new

pub one_more : (keys more : List ℕ → Option ℕ) (vs : List Validator) (v : Validator) (n : ℕ) → n ≡ length vs → AreFirst keys vs → keys v.pubkey ≡ None
    → ((q : List ℕ) → more q ≡ cond (same_pubkey v.pubkey q) (Some n) (keys q)) → AreFirst more (vs ++ v ∷ [])
one_more keys more vs v n len indexes new adds q =
    adds q
    ∙ ap (λ b. cond b (Some n) (keys q)) (nat_list_eq_equiv.symm v.pubkey q)
    ∙ new_by (keys q) (same_pubkey q v.pubkey) n (is_new keys v.pubkey q new)
    ∙ ap (λ (o : Option ℕ). option_or o (cond (same_pubkey q v.pubkey) (Some n) None)) (indexes q)
    ∙ ap (λ k. option_or (index_of_pubkey vs q) (cond (same_pubkey q v.pubkey) (Some k) None)) len
    ∙ sym (index-push vs v q)

-- the registry grows by one
pub registry_grows : (keys more : List (List ℕ × ℕ)) (vs : List Validator) (v : Validator) (n : ℕ) → n ≡ length vs → Indexes keys vs → index_in keys v.pubkey ≡ None → Adds keys more v.pubkey n → Indexes more (vs ++ v ∷ [])
registry_grows keys more vs v n len indexes new adds = one_more (index_in keys) (index_in more) vs v n len indexes new adds

-- and so does its front
front_by : (a : Option ℕ) (keys more : List (List ℕ × ℕ)) (vs : List Validator) (v : Validator) (n : ℕ) → index_in keys v.pubkey ≡ a → n ≡ length vs → Indexes keys vs → NotesBy a keys more v.pubkey n → Indexes more (vs ++ v ∷ [])
front_by (Some i) keys more vs v n is len indexes notes = subst (λ (m : List (List ℕ × ℕ)). Indexes m (vs ++ v ∷ [])) (sym notes) (there_already (index_in keys) vs v i indexes is)
front_by None keys more vs v n is len indexes notes = registry_grows keys more vs v n len indexes is notes

pub front_grows : (keys more : List (List ℕ × ℕ)) (vs : List Validator) (v : Validator) (n : ℕ) → slice_get vs n ≡ Some v → Indexes keys (take n vs) → Notes keys more v.pubkey n → Indexes more (take (n + 1) vs)
front_grows keys more vs v n at indexes notes =
    let lt : n < length vs = slice_get_within vs n v at in
    subst (λ (front : List Validator). Indexes more front) (ap (λ (x : Validator). take n vs ++ x ∷ []) (sym (get_or_from_slice_get vs n v v at)) ∙ sym (take_more vs n v lt))
    (front_by (index_in keys v.pubkey) keys more (take n vs) v n refl (omega (arith, length-take n vs)) indexes notes)
