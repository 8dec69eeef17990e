-- Comparing two lists, value by value.
use Rattle.std.proofs.Common.{◌≡◌, ℕ, ◌+◌, ◌<◌, ◌≤◌, List, ◌∷◌, [], ◌++◌, length, get_or, take, false, true, refl, sym, ap, subst, ◌∙◌, arith}
use Rattle.std.specs.Prelude.{IsTrue, ◌↔◌}
use Rattle.std.proofs.lemmas.Bool.{false≢true}
use Rattle.std.proofs.lemmas.List.{take_more, take_all, get_or_default}

differ : {A : Type 0} (a b : List A) → (a ≡ b → ⊥) → IsTrue false ↔ (a ≡ b)
differ a b not = (λ t. absurd (false≢true t), λ e. absurd (not e))

pub lengths_differ : {A : Type 0} (a b : List A) → (length a ≡ length b → ⊥) → IsTrue false ↔ (a ≡ b)
lengths_differ a b not = differ a b (λ e. not (ap length e))

pub values_differ : {A : Type 0} (a b : List A) (i : ℕ) (x y : A) → x ≡ get_or a i x → y ≡ get_or b i y → i < length a → (x ≡ y → IsTrue false) → IsTrue false ↔ (a ≡ b)
values_differ {A = A} a b i x y x-is y-is lt not =
    differ a b (λ e. false≢true (not (x-is ∙ ap (λ (l : List A). get_or l i x) e ∙ get_or_default b i x y (subst (λ (l : List A). i < length l) e lt) ∙ sym y-is)))

pub one_more_equal : {A : Type 0} (a b : List A) (i : ℕ) (x y : A) → x ≡ get_or a i x → y ≡ get_or b i y → i < length a → length a ≡ length b → x ≡ y → take i a ≡ take i b → take (i + 1) a ≡ take (i + 1) b
one_more_equal {A = A} a b i x y x-is y-is lt len same so_far =
    take_more a i x lt
    ∙ ap (λ (l : List A). l ++ get_or a i x ∷ []) so_far
    ∙ ap (λ z. take i b ++ z ∷ []) (sym x-is ∙ same ∙ y-is)
    ∙ sym (take_more b i y (omega arith))

pub all_same : {A : Type 0} (a b : List A) (i : ℕ) → length a ≤ i → length a ≡ length b → take i a ≡ take i b → IsTrue true ↔ (a ≡ b)
all_same a b i le len so_far =
    let e : a ≡ b = sym (take_all i a le) ∙ so_far ∙ take_all i b (omega arith) in
    (λ t. e, λ h. refl)
