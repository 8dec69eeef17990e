-- Whether numbers are strictly ascending, one after another.
use Rattle.std.proofs.Common.{◌≡◌, ℕ, zero, suc, ◌+◌, ◌<◌, ◌≤◌, true, false, ◌&&◌, ltb, List, [], ◌∷◌, length, get_or, drop, refl, ap, ◌∙◌, arith}
use Rattle.std.proofs.lemmas.Bool.{lt-ltb, le-ltb}
use Rattle.spec_blocks.specs.IsValidIndexedAttestation.{is_strictly_ascending}

opens : (a b : ℕ) (ns : List ℕ) → is_strictly_ascending (a ∷ b ∷ ns) ≡ (ltb a b && is_strictly_ascending (b ∷ ns))
unfolding is_strictly_ascending
opens a b ns = refl

one : (a : ℕ) → is_strictly_ascending (a ∷ []) ≡ true
unfolding is_strictly_ascending
one a = refl

none : is_strictly_ascending [] ≡ true
unfolding is_strictly_ascending
none = refl

at : (ns : List ℕ) (i : ℕ) → i + 1 < length ns → is_strictly_ascending (drop i ns) ≡ (ltb (get_or ns i 0) (get_or ns (i + 1) 0) && is_strictly_ascending (drop (i + 1) ns))
at [] i h = absurd (omega arith)
at (a ∷ []) i h = absurd (omega arith)
at (a ∷ b ∷ ns) zero h = opens a b ns
at (a ∷ b ∷ ns) (suc i) h = at (b ∷ ns) i (omega arith) ∙ ap (λ k. ltb (get_or (b ∷ ns) i 0) (get_or (a ∷ b ∷ ns) k 0) && is_strictly_ascending (drop k (a ∷ b ∷ ns))) (let e : suc (i + 1) ≡ suc i + 1 = omega arith in e)

pub falls_here : (ns : List ℕ) (i : ℕ) → i + 1 < length ns → get_or ns (i + 1) 0 ≤ get_or ns i 0 → is_strictly_ascending (drop i ns) ≡ false
falls_here ns i h falls = at ns i h ∙ ap (λ b. b && is_strictly_ascending (drop (i + 1) ns)) (le-ltb _ _ falls)

pub ascends_here : (ns : List ℕ) (i : ℕ) → i + 1 < length ns → get_or ns i 0 < get_or ns (i + 1) 0 → is_strictly_ascending (drop i ns) ≡ is_strictly_ascending (drop (i + 1) ns)
ascends_here ns i h rises = at ns i h ∙ ap (λ b. b && is_strictly_ascending (drop (i + 1) ns)) (lt-ltb _ _ rises)

pub ascends_to_the_end : (ns : List ℕ) (i : ℕ) → length ns ≤ i + 1 → is_strictly_ascending (drop i ns) ≡ true
ascends_to_the_end [] zero h = none
ascends_to_the_end [] (suc i) h = none
ascends_to_the_end (a ∷ []) zero h = one a
ascends_to_the_end (a ∷ []) (suc zero) h = none
ascends_to_the_end (a ∷ []) (suc (suc i)) h = none
ascends_to_the_end (a ∷ b ∷ ns) zero h = absurd (omega arith)
ascends_to_the_end (a ∷ b ∷ ns) (suc i) h = ascends_to_the_end (b ∷ ns) i (omega arith)
