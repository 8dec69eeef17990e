-- A branch is climbed one level after another.
use Rattle.std.proofs.Common.{◌≡◌, ℕ, ◌+◌, ◌/◌, ◌^◌, List, [], refl, sym, ap, ◌∙◌, add-one, get_or}
use Rattle.std.proofs.Math.Nat.{div-div-eq-div-mul, pow-suc}
use Rattle.spec_blocks.specs.IsValidMerkleBranch.{node_above, hash_with_sibling}

-- one level more
pub climbed : (leaf : List ℕ) (branch : List (List ℕ)) (level index : ℕ) → node_above leaf branch (level + 1) index ≡ hash_with_sibling (node_above leaf branch level index) (get_or branch level []) (index / 2 ^ level)
unfolding node_above
climbed leaf branch level index = ap (λ n. node_above leaf branch n index) (add-one level)

pub at_the_leaf : (leaf : List ℕ) (branch : List (List ℕ)) (index : ℕ) → node_above leaf branch 0 index ≡ leaf
unfolding node_above
at_the_leaf leaf branch index = refl

-- its place is halved
pub halved : (index level : ℕ) → index / 2 ^ level / 2 ≡ index / 2 ^ (level + 1)
halved index level = div-div-eq-div-mul index (2 ^ level) 2 ∙ ap (λ n. index / n) (sym (ap (λ n. 2 ^ n) (add-one level) ∙ pow-suc 2 level))
