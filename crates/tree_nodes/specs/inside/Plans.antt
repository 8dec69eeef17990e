-- What trees are to become: nodes that are there, and pairs whose roots are still to be hashed.
use Rattle.std.specs.Prelude.{◌≡◌, ℕ, suc, ◌+◌, ◌-◌, ◌*◌, ◌<◌, List, [], ◌∷◌, ◌++◌, length, Option, Some, None}
use Rattle.tree_nodes.specs.declared.plan.Stage.{Stage}
use Rattle.tree_nodes.specs.declared.plan.Stage.TheVariants.{Made, Paired}
use Rattle.tree_nodes.specs.inside.Nodes.{AreHalves}
use Rattle.tree_nodes.specs.inside.Layers.{paired, ArePaired}

-- the tree that a plan becomes, and how many pairs it has
abbrev pub planned : {T : Type 0} → Stage T → (ℕ × List T) × ℕ
planned (Made node) = (node, 0)
planned (Paired halves) =
    ((suc halves.value.left.0.0, halves.value.left.0.1 ++ halves.value.right.0.1), suc (halves.value.left.1 + halves.value.right.1))

-- each pair is of halves of a tree
abbrev pub IsPlan : {T : Type 0} → Stage T → Type 0
IsPlan (Made node) = Unit {0}
IsPlan (Paired halves) = AreHalves halves.value.left.0 halves.value.right.0

-- the trees that plans become
unfoldable pub trees : {T : Type 0} → List ((ℕ × List T) × ℕ) → List (ℕ × List T)
trees [] = []
trees (plan ∷ plans) = plan.0 ∷ trees plans

-- how many pairs they have
unfoldable pub pairs : {T : Type 0} → List ((ℕ × List T) × ℕ) → ℕ
pairs [] = 0
pairs (plan ∷ plans) = plan.1 + pairs plans

-- trees of one depth
abbrev pub AreDeep : {T : Type 0} → ℕ → List ((ℕ × List T) × ℕ) → Type 0
AreDeep depth [] = Unit {0}
AreDeep depth (plan ∷ plans) = (plan.0.0 ≡ depth) × AreDeep depth plans

-- how many of the spots have no node
unfoldable pub gaps : {T : Type 0} → List (Option (ℕ × List T)) → ℕ
gaps [] = 0
gaps (Some node ∷ spots) = gaps spots
gaps (None ∷ spots) = suc (gaps spots)

-- the nodes of the spots, where those that have none are given the nodes in order
unfoldable pub filled : {T : Type 0} → List (Option (ℕ × List T)) → List (ℕ × List T) → List (ℕ × List T)
filled [] nodes = []
filled (Some node ∷ spots) nodes = node ∷ filled spots nodes
filled (None ∷ spots) [] = []
filled (None ∷ spots) (node ∷ nodes) = node ∷ filled spots nodes

-- plans by the nodes that are there, and the halves of each pair in the order of the spots without a node
pub record AreOpen {T : Type 0} (plans : List ((ℕ × List T) × ℕ)) (spots : List (Option (ℕ × List T))) (halves : List ((ℕ × List T) × ℕ)) : Type 0 where
  pub all : filled spots (paired (trees halves)) ≡ trees plans
  pub are_paired : ArePaired (trees halves)
  pub two_each : length halves ≡ 2 * gaps spots
  pub fewer : pairs plans ≡ gaps spots + pairs halves
  pub lower : (depth : ℕ) → AreDeep depth plans → AreDeep (depth - 1) halves × (0 < length halves → 0 < depth)
