-- One more pair is written, or all of them are.
use Rattle.std.proofs.Common.{◌≡◌, ◌∙◌, ℕ, List, [], ◌∷◌, ◌++◌, length, get_or, take, sym, ap, ap₂, arith}
use Rattle.std.proofs.lemmas.List.{length-set, take_all, take_more_set}
use Rattle.std.specs.Simd.Lanes.{zip2}
use Rattle.hash_tree.specs.Pairs.{hashes_of}
use Rattle.validator_registry.proofs.MemberRoots.{beside_more, hashes_beside}
use Rattle.validator_registry.proofs.roots.hash_beside.Goals as goal

pub pairs-preserved : goal.pairs-preserved
pairs-preserved c =
    let i = c.pairs.i in
    let left = c.args.left.now in
    let right = c.args.right.now in
    let pair : List (List ℕ) = get_or left i [] ∷ get_or right i [] ∷ [] in
    record {
      room = length-set c.pairs.pairs i pair ∙ c.pairs.invariant.room;
      so_far =
          take_more_set c.pairs.pairs i pair (omega (arith, c.pairs.invariant.room, c.requires.few))
          ∙ (ap (λ (pairs : List (List (List ℕ))). pairs ++ pair ∷ []) c.pairs.invariant.so_far
          ∙ sym (beside_more (λ (a b : List ℕ). a ∷ b ∷ []) left right i [] [] (omega arith) (omega (arith, c.requires.right))));
    }

pub returns : goal.returns
returns c =
    let i = c.pairs.i in
    let left = c.args.left.now in
    let right = c.args.right.now in
    let done : length left ≡ i = omega arith in
    let all_left : take i left ≡ left = take_all i left (omega arith) in
    let all_right : take i right ≡ right = take_all i right (omega (arith, c.requires.right)) in
    let pairs : take (length left) c.pairs.pairs ≡ zip2 (λ a b. a ∷ b ∷ []) left right =
    ap (λ (n : ℕ). take n c.pairs.pairs) done
    ∙ (c.pairs.invariant.so_far ∙ ap₂ (λ (xs ys : List (List ℕ)). zip2 (λ (a b : List ℕ). a ∷ b ∷ []) xs ys) all_left all_right) in
    c.hash_pairs.ensures ∙ (ap hashes_of pairs ∙ hashes_beside left right)
