-- What is made of each node, where the nodes from a lowest one on are done.
use Rattle.std.specs.Prelude.{◌≡◌, ℕ, ◌+◌, ◌-◌, ◌<◌, ◌≤◌, ◌^◌, Bool, true, false, if◌then◌else◌, IfSome, List, [], ◌∷◌, drop, length, slice_index_or, Option, Some, None}
use Rattle.std.specs.List.{list_any}
use Rattle.block_array.specs.declared.best_descendant.BestDescendant.{BestDescendant}
use Rattle.block_array.specs.PlainArray.{PlainArray}
use Rattle.block_array.specs.FilterBlockTree.{is_child, filter_block_tree, get_filtered_block_tree}
use Rattle.block_array.specs.GetHead.{goes_before, best_of, children_of, head_within}
use Rattle.block_array.specs.GetLatestAttestingBalance.{get_latest_attesting_balance}
use Rattle.block_array.specs.inside.Counts.{Counts, nothing, own_at, weight_from}
use Rattle.block_array.specs.inside.Held.{due, boost_due}

abbrev pub no_best_descendant : BestDescendant
no_best_descendant = record { weight = 0; has_child = false; child = None; descendant = 0 }

unfoldable pub best_descendant_at : List BestDescendant → ℕ → BestDescendant
best_descendant_at bests number = slice_index_or bests number no_best_descendant

-- all that is counted is what is due
pub record IsCounted (array : PlainArray) (counts : Counts) : Type 0 where
  pub nodes : counts.nodes ≡ length array.nodes
  pub covers : length array.latest_messages ≤ length counts.validators
  pub validators : (v : ℕ) → v < length counts.validators → slice_index_or counts.validators v nothing ≡ due array v
  pub boost : counts.boost ≡ boost_due array

-- the viable nodes among those from a lowest one on
unfoldable pub viable_from : PlainArray → ℕ → List ℕ
viable_from array low = filter_block_tree array low (drop low array.nodes)

-- the best of some nodes, if there is one
unfoldable pub best_among : PlainArray → List ℕ → Option ℕ
best_among array [] = None
best_among array (number ∷ others) = Some (best_of array number others)

-- the best of the viable children of a node, among those from a lowest one on
unfoldable pub best_child : PlainArray → ℕ → ℕ → Option ℕ
best_child array low number = best_among array (children_of array (viable_from array low) number)

-- the better one of two nodes: the first, unless the second goes before it
unfoldable pub better : PlainArray → ℕ → ℕ → ℕ
better array a b = if goes_before array b a then b else a

-- the better one of a child and the best so far, if there is one
unfoldable pub better_child : PlainArray → ℕ → Option ℕ → ℕ
better_child array number None = number
better_child array number (Some best) = better array number best

-- the head from a node on
unfoldable pub IsHeadFrom : PlainArray → ℕ → ℕ → Type 0
IsHeadFrom array number head = (steps : ℕ) → length array.nodes - number ≤ steps → head_within steps array (get_filtered_block_tree array) number ≡ head

-- of the nodes from the justified one on, what they are where those from a lowest one on have given their parents theirs
pub record AreBest (array : PlainArray) (counts : Counts) (bests : List BestDescendant) (low : ℕ) : Type 0 where
  pub length_is : length bests ≡ length array.nodes
  pub weight : (j : ℕ) → array.justified_node ≤ j → j < length array.nodes → (best_descendant_at bests j).weight ≡ weight_from array.nodes counts low j
  pub has_child : (j : ℕ) → array.justified_node ≤ j → j < length array.nodes → (best_descendant_at bests j).has_child ≡ list_any (is_child j) (drop low array.nodes)
  pub child : (j : ℕ) → array.justified_node ≤ j → j < length array.nodes → (best_descendant_at bests j).child ≡ best_child array low j
  pub descendant : (j : ℕ) → low ≤ j → j < length array.nodes → IsHeadFrom array j (best_descendant_at bests j).descendant

-- weights and heads of the nodes from the justified one on are made
pub record IsMade (array : PlainArray) (bests : List BestDescendant) : Type 0 where
  pub weights : (j : ℕ) → array.justified_node ≤ j → j < length array.nodes → (best_descendant_at bests j).weight ≡ get_latest_attesting_balance array j
  pub heads : (j : ℕ) → array.justified_node ≤ j → j < length array.nodes → IsHeadFrom array j (best_descendant_at bests j).descendant

-- the weight of a node is made
unfoldable pub IsWeighed : PlainArray → List BestDescendant → ℕ → Type 0
IsWeighed array bests number = (best_descendant_at bests number).weight ≡ get_latest_attesting_balance array number

-- the nodes from a first one on, up to a number, are as they are before their children are looked at
unfoldable pub AreFresh : Counts → ℕ → List BestDescendant → ℕ → Type 0
AreFresh counts first bests end = (j : ℕ) → first ≤ j → j < end → best_descendant_at bests j ≡ record { weight = own_at counts j; has_child = false; child = None; descendant = 0 }

-- a node can give its weight to its parent, and offer itself as its best child
pub record CanGive (array : PlainArray) (bests : List BestDescendant) (number parent : ℕ) : Type 0 where
  pub length_is : length bests ≡ length array.nodes
  pub number_in : number < length bests
  pub parent_in : parent < length bests
  pub fits : (best_descendant_at bests parent).weight + (best_descendant_at bests number).weight < 2 ^ 128
  pub weighed : IsWeighed array bests number
  pub child_in : IfSome (best_descendant_at bests parent).child (λ child. child < length bests)
  pub child_weighed : IfSome (best_descendant_at bests parent).child (λ child. IsWeighed array bests child)

-- what a parent is made then
unfoldable pub given : PlainArray → List BestDescendant → ℕ → ℕ → Bool → BestDescendant
given array bests number parent viable = record {
  weight = (best_descendant_at bests parent).weight + (best_descendant_at bests number).weight;
  has_child = true;
  child = if viable then Some (better_child array number (best_descendant_at bests parent).child) else (best_descendant_at bests parent).child;
  descendant = (best_descendant_at bests parent).descendant;
}
