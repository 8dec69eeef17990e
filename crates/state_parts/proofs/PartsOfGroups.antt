-- The parts of a state, split into its groups.
use Rattle.std.proofs.Common.{◌≡◌, ℕ, zero, suc, List, [], ◌∷◌, length, take, drop, map, refl, sym, ap, ◌∙◌}
use Rattle.std.proofs.lemmas.List.{take-map, length-map}
use Rattle.bc_preset.specs.declared.presets.Preset.{Preset}
use Rattle.ssz_codec.specs.Containers.{all_read}
use Rattle.spec_state.specs.States.{state_fields}
use Rattle.state_parts.specs.inside.Groups.{read_groups}
use Rattle.state_parts.proofs.Regrouped.{groups_are_read}

map-drop : {X : Type 0} (f : X → List ℕ) (n : ℕ) (xs : List X) → map f (drop n xs) ≡ drop n (map f xs)
map-drop f zero xs = refl
map-drop f (suc n) [] = refl
map-drop f (suc n) (x ∷ xs) = map-drop f n xs

module _ {X : Type 0} (f : X → List ℕ) (p : Preset) (ps a r1 b r2 c r3 d r4 e r5 : List X)
    (ea : a ≡ take 5 ps) (e1 : r1 ≡ drop 5 ps) (eb : b ≡ take 3 r1) (e2 : r2 ≡ drop 3 r1) (ec : c ≡ take 3 r2) (e3 : r3 ≡ drop 3 r2)
    (ed : d ≡ take 4 r3) (e4 : r4 ≡ drop 4 r3) (ee : e ≡ take 2 r4) (e5 : r5 ≡ drop 2 r4) (count : length ps ≡ 21) where
  front : (n : ℕ) (xs ys : List X) (zs : List (List ℕ)) → xs ≡ take n ys → map f ys ≡ zs → map f xs ≡ take n zs
  front n xs ys zs h k = ap (map f) h ∙ sym (take-map f n ys) ∙ ap (take n) k

  back : (n : ℕ) (xs ys : List X) (zs : List (List ℕ)) → xs ≡ drop n ys → map f ys ≡ zs → map f xs ≡ drop n zs
  back n xs ys zs h k = ap (map f) h ∙ map-drop f n ys ∙ ap (drop n) k

  abbrev all : List (List ℕ)
  all = map f ps

  many : length all ≡ 21
  many = length-map ps f ∙ count

  m1 : map f r1 ≡ drop 5 all
  m1 = back 5 r1 ps all e1 refl

  m2 : map f r2 ≡ drop 3 (drop 5 all)
  m2 = back 3 r2 r1 (drop 5 all) e2 m1

  m3 : map f r3 ≡ drop 3 (drop 3 (drop 5 all))
  m3 = back 3 r3 r2 (drop 3 (drop 5 all)) e3 m2

  m4 : map f r4 ≡ drop 4 (drop 3 (drop 3 (drop 5 all)))
  m4 = back 4 r4 r3 (drop 3 (drop 3 (drop 5 all))) e4 m3

  m5 : map f r5 ≡ drop 2 (drop 4 (drop 3 (drop 3 (drop 5 all))))
  m5 = back 2 r5 r4 (drop 4 (drop 3 (drop 3 (drop 5 all)))) e5 m4

  pub parts_are_read : read_groups p (map f a) (map f b) (map f c) (map f d) (map f e) (map f r5) ≡ (state_fields p).deserialize all_read all
  parts_are_read =
      ap (λ x. read_groups p x (map f b) (map f c) (map f d) (map f e) (map f r5)) (front 5 a ps all ea refl)
      ∙ ap (λ x. read_groups p (take 5 all) x (map f c) (map f d) (map f e) (map f r5)) (front 3 b r1 (drop 5 all) eb m1)
      ∙ ap (λ x. read_groups p (take 5 all) (take 3 (drop 5 all)) x (map f d) (map f e) (map f r5)) (front 3 c r2 (drop 3 (drop 5 all)) ec m2)
      ∙ ap (λ x. read_groups p (take 5 all) (take 3 (drop 5 all)) (take 3 (drop 3 (drop 5 all))) x (map f e) (map f r5)) (front 4 d r3 (drop 3 (drop 3 (drop 5 all))) ed m3)
      ∙ ap (λ x. read_groups p (take 5 all) (take 3 (drop 5 all)) (take 3 (drop 3 (drop 5 all))) (take 4 (drop 3 (drop 3 (drop 5 all)))) x (map f r5)) (front 2 e r4 (drop 4 (drop 3 (drop 3 (drop 5 all)))) ee m4)
      ∙ ap (λ x. read_groups p (take 5 all) (take 3 (drop 5 all)) (take 3 (drop 3 (drop 5 all))) (take 4 (drop 3 (drop 3 (drop 5 all)))) (take 2 (drop 4 (drop 3 (drop 3 (drop 5 all))))) x) m5
      ∙ sym (groups_are_read p all many)
