-- Which balances are counted, and at which nodes.
use Rattle.std.specs.Prelude.{◌≡◌, ℕ, ◌<◌, ◌≤◌, ◌^◌, Bool, false, List, ◌∷◌, length, slice_index_or, ◌==◌, if◌then◌else◌}
use Rattle.std.specs.List.{All, sum_by}
use Rattle.block_array.specs.declared.node.Node.{Node}
use Rattle.block_array.specs.declared.tally.Counted.{Counted}
use Rattle.block_array.specs.inside.Tree.{reaches}

-- a counted balance for each validator, in order; the boost; how many nodes there are; for how many nodes and validators
-- there is room
pub record Counts : Type 0 where
  pub validators : List Counted
  pub boost : Counted
  pub nodes : ℕ
  pub node_room : ℕ
  pub validator_room : ℕ

-- nothing is counted of a validator
abbrev pub nothing : Counted
nothing = record { node = 0; balance = 0; changed = false }

-- what is counted of a validator
unfoldable pub counted_of : List Counted → ℕ → Counted
counted_of validators v = slice_index_or validators v nothing

-- all that is counted
abbrev pub all_of : Counts → List Counted
all_of counts = counts.boost ∷ counts.validators

-- what is counted of one balance, where a test passes its node
unfoldable pub share : (ℕ → Bool) → Counted → ℕ
share test c = if test c.node then c.balance else 0

-- what is counted at the nodes that pass a test
unfoldable pub counted_at : (ℕ → Bool) → List Counted → ℕ
counted_at test counts = sum_by (share test) counts

-- what is counted at one node
unfoldable pub own_at : Counts → ℕ → ℕ
own_at counts number = counted_at (λ n. n == number) (all_of counts)

-- a node's weight, where nodes from a lowest one on have given theirs to their parents
unfoldable pub weight_from : List Node → Counts → ℕ → ℕ → ℕ
weight_from nodes counts low number = counted_at (λ n. reaches (length nodes) nodes low n number) (all_of counts)

-- a balance is counted at a node, and one of a validator fits in 64 bits
abbrev pub IsBelow : ℕ → Counted → Type 0
IsBelow nodes c = c.node < nodes

abbrev pub Fits : Counted → Type 0
Fits c = c.balance < 2 ^ 64

-- what is kept at each node is what is counted there
pub record IsTally (own : List ℕ) (boost : Counted) (validators : List Counted) : Type 0 where
  pub exact : (number : ℕ) → number < length own → slice_index_or own number 0 ≡ counted_at (λ n. n == number) (boost ∷ validators)
  pub boost_below : IsBelow (length own) boost
  pub below : All (IsBelow (length own)) validators
  pub boost_fits : boost.balance < 2 ^ 112
  pub fits : All Fits validators
  pub few : length validators ≤ 2 ^ 40
