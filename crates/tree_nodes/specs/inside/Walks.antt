-- Where a walk over a tree's items stands.
use Rattle.std.specs.Prelude.{◌≡◌, ℕ, suc, ◌<◌, ◌≤◌, ◌^◌, List, [], ◌∷◌, ◌++◌, length, map, drop}
use Rattle.std.specs.Borrow.{Bor}
use Rattle.tree_nodes.specs.inside.Layers.{held}

-- the nodes of a path from a place on
abbrev pub ahead : {T : Type 0} → ℕ → List (Bor (ℕ × List T)) → List (ℕ × List T)
ahead from path = map (λ node. node.now) (drop from path)

-- their items
abbrev pub waiting : {T : Type 0} → ℕ → List (Bor (ℕ × List T)) → List T
waiting from path = held (ahead from path)

-- the node is full where the nodes behind it have items
abbrev pub Joins : {T : Type 0} → ℕ × List T → List (ℕ × List T) → Type 0
Joins node nodes = 0 < length (held nodes) → length node.1 ≡ 2 ^ node.0

-- nodes that join one another, of which there is room for what is in them before their places
abbrev pub IsPath : {T : Type 0} → ℕ → List (ℕ × List T) → Type 0
IsPath place [] = Unit {0}
IsPath place (node ∷ nodes) = (node.0 ≤ place) × Joins node nodes × IsPath (suc place) nodes

-- the first of a node's items, with what is behind them in front of what was there; none only where the node has none
abbrev pub Enters : {T : Type 0} → List T → List T → List T → List T → Type 0
Enters entered items before now = (entered ++ now ≡ items ++ before) × (length entered ≡ 0 → (items ≡ []) × (now ≡ before))

-- what a walk has before it: the items of the leaves in which it stands, and those of its path
abbrev pub standing : {T : Type 0} → List T → ℕ → List (Bor (ℕ × List T)) → List T
standing items from path = items ++ waiting from path
