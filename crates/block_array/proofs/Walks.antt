-- The walk from a node to its parents, one step after another.
use Rattle.std.proofs.Common.{◌≡◌, ℕ, suc, ◌+◌, ◌-◌, ◌<◌, ◌≤◌, nat_lt, cond, List, Option, Some, None, length, refl, ap, ◌∙◌, arith}
use Rattle.std.specs.Option.{unwrap_or}
use Rattle.std.proofs.lemmas.Bool.{lt-ltb, le-ltb}
use Rattle.block_array.specs.declared.node.Node.{Node}
use Rattle.block_array.specs.PlainArray.{slot_at, parent_at}
use Rattle.block_array.specs.GetAncestor.{parent_or_self, ancestor_within, get_ancestor}
use Rattle.block_array.specs.inside.Tree.{IsTree}
use Rattle.block_array.proofs.Chains.{parent_below}

module _ (nodes : List Node) (number slot : ℕ) where
  opens : (i : ℕ) → i < length nodes → ancestor_within (length nodes - i) nodes number slot ≡ cond (nat_lt slot (slot_at nodes number)) (ancestor_within (length nodes - (i + 1)) nodes (parent_or_self nodes number) slot) number
  unfolding ancestor_within
  opens i less = let e : length nodes - i ≡ suc (length nodes - (i + 1)) = omega arith in ap (λ k. ancestor_within k nodes number slot) e

  pub walk_begins : ancestor_within (length nodes - 0) nodes number slot ≡ get_ancestor nodes number slot
  unfolding get_ancestor
  walk_begins = let e : length nodes - 0 ≡ length nodes = omega arith in ap (λ n. ancestor_within n nodes number slot) e

  pub walk_ends : (i : ℕ) → length nodes ≤ i → ancestor_within (length nodes - i) nodes number slot ≡ number
  unfolding ancestor_within
  walk_ends i past = let e : length nodes - i ≡ 0 = omega arith in ap (λ k. ancestor_within k nodes number slot) e

  pub walk_stops : (i : ℕ) → i < length nodes → slot_at nodes number ≤ slot → ancestor_within (length nodes - i) nodes number slot ≡ number
  walk_stops i less there = opens i less ∙ ap (λ b. cond b (ancestor_within (length nodes - (i + 1)) nodes (parent_or_self nodes number) slot) number) (le-ltb slot (slot_at nodes number) there)

  pub walk_goes_on : (i : ℕ) → i < length nodes → slot < slot_at nodes number → ancestor_within (length nodes - i) nodes number slot ≡ ancestor_within (length nodes - (i + 1)) nodes (parent_or_self nodes number) slot
  walk_goes_on i less past = opens i less ∙ ap (λ b. cond b (ancestor_within (length nodes - (i + 1)) nodes (parent_or_self nodes number) slot) number) (lt-ltb slot (slot_at nodes number) past)

  parent_by : IsTree nodes → (o : Option ℕ) → parent_at nodes number ≡ o → unwrap_or o number ≤ number
  parent_by tree None e = omega arith
  parent_by tree (Some p) e = let h : p < number = parent_below nodes tree number p e in omega arith

  pub parent_inside : IsTree nodes → number < length nodes → parent_or_self nodes number < length nodes
  unfolding parent_or_self
  parent_inside tree inside = let h : unwrap_or (parent_at nodes number) number ≤ number = parent_by tree (parent_at nodes number) refl in omega arith

pub ruleset walking = (walk_begins, walk_ends, walk_stops, walk_goes_on, parent_inside)
