-- Balances that are at hand before a block moves the store.
use Rattle.std.proofs.Common.{◌≡◌, ◌∙◌, true, false, Option, Some, sym, ap}
use Rattle.std.proofs.lemmas.Bool.{false≢true}
use Rattle.beacon_types.specs.Equality.{same_checkpoint}
use Rattle.beacon_types.specs.declared.checkpoint.Checkpoint.{Checkpoint}
use Rattle.spec_fork_choice.specs.Store.{Store}
use Rattle.fork_store.specs.Arrays.{Balances}
use Rattle.fork_store.specs.inside.Wholes.{balances_for, AreReady}
use Rattle.fork_store.specs.inside.Following.{may_move, may_be_left, AreGiven}

module _ (store : Store) (given best : Option Balances) (justified finalized : Checkpoint) where
  pub given_none : may_move store justified finalized ≡ false → AreGiven store given best justified finalized
  unfolding AreGiven
  given_none not = λ may _. absurd (false≢true (sym not ∙ may))

  pub given_same : same_checkpoint justified store.best_justified_checkpoint ≡ true → AreGiven store given best justified finalized
  unfolding AreGiven
  given_same same = λ _ other. absurd (false≢true (sym other ∙ same))

pub given_made : (store : Store) (given : Balances) (best : Option Balances) (justified finalized : Checkpoint) → given ≡ balances_for store justified → (may_be_left store justified ≡ true → AreReady store best store.best_justified_checkpoint) → AreGiven store (Some given) best justified finalized
unfolding AreGiven
given_made store given best justified finalized one other = λ _ _. (ap Some one, other)

pub not_left : (store : Store) (best : Option Balances) (justified : Checkpoint) → may_be_left store justified ≡ false → may_be_left store justified ≡ true → AreReady store best store.best_justified_checkpoint
not_left store best justified not left = absurd (false≢true (sym not ∙ left))

pub ruleset preparing = (given_none, given_same, given_made)
