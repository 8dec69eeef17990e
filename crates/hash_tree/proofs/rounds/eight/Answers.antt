-- All eight are written.
use Rattle.std.proofs.Common.{◌≡◌, ℕ, List, [], ◌∷◌, slice_set, refl}
use Rattle.hash_tree.proofs.Lanes.{eight_items}
use Rattle.hash_tree.proofs.rounds.eight.Goals as goal

pub returns : goal.returns
returns g c =
    let a = c.args in
    eight_items (λ (xs : List (List ℕ)).
    slice_set (slice_set (slice_set (slice_set (slice_set (slice_set (slice_set (slice_set xs 0 a.a) 1 a.b) 2 a.c) 3 a.d) 4 a.e) 5 a.f) 6 a.g) 7 a.h
    ≡ a.a ∷ a.b ∷ a.c ∷ a.d ∷ a.e ∷ a.f ∷ a.g ∷ a.h ∷ []) (λ k l m n o p q r. refl) a.room c.is_eight.ensures
