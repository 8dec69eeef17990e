-- One value more, or all of them were made: as many as there are validators.
use Rattle.std.proofs.Common.{◌≡◌, ◌∷◌, length, drop, rules, sym, ap, subst, ◌∙◌, arith}
use Rattle.bc_words.specs.Outcome.{Stops}
use Rattle.spec_epochs.specs.Each.{checked_map, validator_indices}
use Rattle.spec_epochs.specs.ProcessSlashings.{penalized_balance}
use Rattle.spec_epochs.proofs.Each.{made_few}
use Rattle.balance_totals.proofs.LeftOf.{others_left}
use Rattle.epoch_processing.proofs.MadeLeft.{left_made, left_stops, left_ends, rest_left}
use Rattle.epoch_processing.proofs.process_slashings.penalized_balances.Goals as goal

pub loop-index-preserved : goal.loop-index-preserved
loop-index-preserved c =
    let state = c.args.state.now in
    let i = c.loop-index.index-iterator.count in
    let x = c.in-Some.validator in
    let left = c.next.new.self.iter in
    let step = c.in-Some.ensures.steps in
    let here : x ∷ left ≡ drop i state.validators = sym step.0 ∙ c.loop-index.invariant.at in
    record {
      at = others_left state.validators i x left here ∙ ap (λ k. drop k state.validators) (sym step.2);
      beside = c.next_balance-balance.ensures.others ∙ rest_left state.balances i c.loop-index.balances c.loop-index.invariant.beside ∙ ap (λ k. drop k state.balances) (sym step.2);
      made =
          left_made _ state.validators i c.loop-index.all.items x left c.in-Some.index c.next.new.self.count c.in_ok-penalized.penalized c.push.new.self.items here step.1 step.2 c.in_ok-penalized.ensures c.in_ok-push.ensures.items
          ∙ c.loop-index.invariant.made;
    }

pub returns-in_err-penalized-clause-exact : goal.returns-in_err-penalized-clause-exact
returns-in_err-penalized-clause-exact c =
    let state = c.args.state.now in
    let stop = c.in_err-penalized.field-0.0 in
    let step = c.in-Some.ensures.steps in
    let all : Stops stop (checked_map (penalized_balance state c.args.slashed.now.adjusted c.args.slashed.now.total) (validator_indices state)) =
    subst (Stops stop) c.loop-index.invariant.made
    (left_stops _ state.validators c.loop-index.index-iterator.count c.loop-index.all.items c.in-Some.validator c.next.new.self.iter c.in-Some.index stop (sym step.0 ∙ c.loop-index.invariant.at) step.1 c.in_err-penalized.ensures) in
    search (rules, all)

pub returns-clause-exact : goal.returns-clause-exact
returns-clause-exact c =
    sym c.loop-index.invariant.made
    ∙ left_ends _ c.args.state.now.validators c.loop-index.index-iterator.count c.loop-index.all.items (sym c.in-None.ensures.steps.0.0 ∙ c.loop-index.invariant.at)

pub returns-clause-few : goal.returns-clause-few
unfolding validator_indices
returns-clause-few c =
    let n : length c.loop-index.all.items ≡ length c.args.state.now.validators =
    made_few _ _ c.loop-index.all.items
    (sym c.loop-index.invariant.made
    ∙ left_ends _ c.args.state.now.validators c.loop-index.index-iterator.count c.loop-index.all.items (sym c.in-None.ensures.steps.0.0 ∙ c.loop-index.invariant.at)) in
    omega arith
