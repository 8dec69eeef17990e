-- Layers, each seen as its nodes and how many have room.
use Rattle.genesis_maker.specs.inside.Layers.{AreLayers}
use Rattle.std.specs.Prelude.{◌≡◌, ℕ, ◌<◌, ◌≤◌, ◌^◌, ◌/◌, slice_index_or, List, [], ◌∷◌, length, map}
use Rattle.std.specs.List.{AllByRecursion}

-- their nodes
abbrev pub nodes_of : List (List (List ℕ) × ℕ) → List (List (List ℕ))
nodes_of layers = map (λ (layer : List (List ℕ) × ℕ). layer.0) layers

-- each has room for a node more
abbrev pub HaveRoom : List (List (List ℕ) × ℕ) → Type 0
HaveRoom layers = AllByRecursion (λ (layer : List (List ℕ) × ℕ). length layer.0 < layer.1) layers

-- the place of the next leaf's node in each is one of its own or the next one
abbrev pub HavePlaces : ℕ → List (List (List ℕ)) → Type 0
HavePlaces place [] = Unit {0}
HavePlaces place (layer ∷ layers) = (place ≤ length layer) × HavePlaces (place / 2) layers

-- the leaves: the nodes of the first layer
abbrev pub leaves_of : List (List (List ℕ) × ℕ) → List (List ℕ)
leaves_of layers = slice_index_or (nodes_of layers) 0 []

-- The layers of a tree of depth 32: those of its leaves
pub record IsTree (layers : List (List (List ℕ) × ℕ)) : Type 0 where
  pub long : length layers ≡ 33
  pub are_layers : AreLayers 0 (leaves_of layers) (nodes_of layers)
  pub fits : length (leaves_of layers) ≤ 2 ^ 32
