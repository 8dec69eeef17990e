use Rattle.std.proofs.Common.{◌≡◌, ◌∙◌, ℕ, true, Result, Ok, Err, is_ok, sym, subst}
use Rattle.std.proofs.lemmas.Bool.{false≢true}
use Rattle.bc_words.specs.Outcome.{GivesExactly}
use Rattle.bc_words.specs.declared.stop.Stop.{Stop}
use Rattle.spec_state.specs.declared.plain.PlainState.{PlainState}
use Rattle.spec_state.specs.Accessors.{get_active_validator_indices, get_total_balance, get_total_active_balance}
use Rattle.vectors.specs.Chains.{HasTotal}
use Rattle.vectors.proofs.beginning.total_fits.Goals as goal

total_of : (state : PlainState) (r : Result ℕ Stop) → GivesExactly r (get_total_active_balance state) → is_ok r ≡ true → HasTotal state
total_of state (Ok n) gives ok = record { total = n; is = gives }
total_of state (Err e) gives ok = absurd (false≢true ok)

pub returns : goal.returns
returns c = λ same.
    total_of c.args.genesis.now c.total_active.result
    (subst (λ (e : ℕ). GivesExactly c.total_active.result (get_total_balance c.args.genesis.now (get_active_validator_indices c.args.genesis.now e))) c.current_epoch.ensures.exact c.total_active.ensures)
    (sym c.is_ok.ensures.value ∙ same)
