use Rattle.std.proofs.Common.{◌≡◌, ℕ, zero, suc, ◌<◌, ◌≤◌, List, [], ◌∷◌, ◌++◌, length, set, Option, Some, None, refl, ap, arith}
use Rattle.block_array.specs.declared.node.Message.{Message}
use Rattle.block_array.specs.UpdateLatestMessages.{with_message}

-- ---- putting one

pub empty_place : (messages : List (Option Message)) (i : ℕ) (message : Message) → length messages ≤ i → with_message (messages ++ None ∷ []) i message ≡ with_message messages i message
unfolding with_message
empty_place [] zero message h = refl
empty_place [] (suc i) message h = refl
empty_place (m ∷ messages) zero message h = absurd (omega arith)
empty_place (m ∷ messages) (suc i) message h = ap (λ ms. m ∷ ms) (empty_place messages i message (omega arith))

pub at_end : (messages : List (Option Message)) (i : ℕ) (message : Message) → length messages ≡ i → messages ++ Some message ∷ [] ≡ with_message messages i message
unfolding with_message
at_end [] zero message h = refl
at_end [] (suc i) message h = absurd (omega arith)
at_end (m ∷ messages) zero message h = absurd (omega arith)
at_end (m ∷ messages) (suc i) message h = ap (λ ms. m ∷ ms) (at_end messages i message (omega arith))

pub in_place : (messages : List (Option Message)) (i : ℕ) (message : Message) → i < length messages → set messages i (Some message) ≡ with_message messages i message
unfolding with_message
in_place [] i message h = absurd (omega arith)
in_place (m ∷ messages) zero message h = refl
in_place (m ∷ messages) (suc i) message h = ap (λ ms. m ∷ ms) (in_place messages i message (omega arith))
