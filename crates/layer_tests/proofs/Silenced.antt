-- A silencing leaves the nodes.
use Rattle.std.proofs.Common.{◌≡◌, ℕ, Bool, true, false, cond, refl}
use Rattle.block_array.specs.PlainArray.{PlainArray, is_listed}
use Rattle.block_array.specs.Silence.{silence, silenced}

pub silence_nodes : (array : PlainArray) (validator : ℕ) → (silence array validator).nodes ≡ array.nodes
unfolding silence silenced
silence_nodes array validator = by (is_listed array.silenced_validators validator)
  where
    by : (b : Bool) → (cond b array (silenced array validator)).nodes ≡ array.nodes
    by true = refl
    by false = refl

pub ruleset silencing = (silence_nodes)
