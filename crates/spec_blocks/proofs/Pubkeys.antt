-- The index of a key in a registry that gets one validator more.
use Rattle.std.proofs.Common.{◌≡◌, ℕ, ◌+◌, Bool, true, false, cond, List, [], ◌∷◌, ◌++◌, length, Option, Some, None, refl, sym, ap, ◌∙◌, arith}
use Rattle.std.specs.List.{position, position_from}
use Rattle.std.specs.Option.{option_or}
use Rattle.std.proofs.lemmas.Iterator.Adapters.{position_from-zero}
use Rattle.beacon_types.specs.declared.validator.Validator.{Validator}
use Rattle.spec_blocks.specs.ProcessDeposit.{same_pubkey, index_of_pubkey}

-- the first place in a list with one item more
push_by : (b c : Bool) (i n m : ℕ) (later sooner : Option ℕ) → n ≡ m → later ≡ option_or sooner (cond c (Some n) None) → cond b (Some i) later ≡ option_or (cond b (Some i) sooner) (cond c (Some m) None)
push_by true c i n m later sooner e h = refl
push_by false c i n m later sooner e h = h ∙ ap (λ k. option_or sooner (cond c (Some k) None)) e

from_push : {A : Type 0} (test : A → Bool) (i : ℕ) (xs : List A) (x : A) → position_from test i (xs ++ x ∷ []) ≡ option_or (position_from test i xs) (cond (test x) (Some (i + length xs)) None)
from_push test i [] x = ap (λ n. cond (test x) (Some n) None) (omega arith)
from_push test i (y ∷ ys) x = push_by (test y) (test x) i (i + 1 + length ys) (i + length (y ∷ ys)) _ _ (omega arith) (from_push test (i + 1) ys x)

-- the index of a key, where the registry gets one validator more
pub index-push : (vs : List Validator) (v : Validator) (q : List ℕ) → index_of_pubkey (vs ++ v ∷ []) q ≡ option_or (index_of_pubkey vs q) (cond (same_pubkey q v.pubkey) (Some (length vs)) None)
unfolding index_of_pubkey
index-push vs v q =
    position_from-zero (λ (w : Validator). same_pubkey q w.pubkey) (vs ++ v ∷ [])
    ∙ from_push (λ (w : Validator). same_pubkey q w.pubkey) 0 vs v
    ∙ ap (λ (o : Option ℕ). option_or o (cond (same_pubkey q v.pubkey) (Some (0 + length vs)) None)) (sym (position_from-zero (λ (w : Validator). same_pubkey q w.pubkey) vs))
    ∙ ap (λ n. option_or (position (λ (w : Validator). same_pubkey q w.pubkey) vs) (cond (same_pubkey q v.pubkey) (Some n) None)) (omega arith)
