-- One amount more, or all of them were made: as many as there are validators.
use Rattle.std.proofs.Common.{◌≡◌, length, sym, subst, ◌∙◌, arith}
use Rattle.bc_words.specs.Outcome.{Stops, GivesExactly}
use Rattle.spec_epochs.specs.Each.{validator_indices}
use Rattle.spec_epochs.proofs.Each.{made_ends, made_few}
use Rattle.epoch_rewards.specs.inside.Standings.{IsStanding}
use Rattle.epoch_rewards.proofs.Beside.{next_here, next_left}
use Rattle.epoch_rewards.proofs.Pushed.{pushed_more, pushed_stops}
use Rattle.epoch_rewards.proofs.amounts.all_amounts.Goals as goal

pub standing_of-standing-requires-clause-balance : goal.standing_of-standing-requires-clause-balance
standing_of-standing-requires-clause-balance g c =
    next_here c.args.state.now.balances c.loop-index.index c.loop-index.balances c.next-balance.new.self c.next-balance.result c.loop-index.invariant.beside c.next-balance.ensures.steps

pub amount-made-requires-clause-standing : goal.amount-made-requires-clause-standing
amount-made-requires-clause-standing g c =
    subst (λ table. IsStanding c.args.state.now table c.standing_of-standing.result) c.requires.table c.standing_of-standing.ensures.is

pub loop-index-preserved : goal.loop-index-preserved
loop-index-preserved g c =
    let amount = g.A.Amounts.amount_of c.args.kept.now c.args.state.now in
    let gives = subst (λ index. GivesExactly c.amount-made.result (amount index)) c.standing_of-standing.ensures.at c.amount-made.ensures in
    record {
      beside = next_left c.args.state.now.balances c.loop-index.index c.loop-index.balances c.next-balance.new.self c.next-balance.result c.loop-index.invariant.beside c.next-balance.ensures.steps;
      rates = c.follow.ensures.are;
      made =
          pushed_more _ _ c.loop-index.index c.loop-index.all.items c.push_made.new.numbers.items c.amount-made.result (omega arith) gives c.in-Ok.ensures.pushed
          ∙ c.loop-index.invariant.made;
    }

pub returns-in-Err-clause-exact : goal.returns-in-Err-clause-exact
returns-in-Err-clause-exact g c =
    let amount = g.A.Amounts.amount_of c.args.kept.now c.args.state.now in
    let gives = subst (λ index. GivesExactly c.amount-made.result (amount index)) c.standing_of-standing.ensures.at c.amount-made.ensures in
    subst (Stops c.in-Err.stop) c.loop-index.invariant.made
    (pushed_stops _ _ c.loop-index.index c.loop-index.all.items c.amount-made.result c.in-Err.stop (omega arith) gives c.in-Err.ensures.stops)

pub returns-clause-exact : goal.returns-clause-exact
returns-clause-exact g c = sym c.loop-index.invariant.made ∙ made_ends _ _ c.loop-index.index c.loop-index.all.items (omega arith)

pub returns-clause-few : goal.returns-clause-few
unfolding validator_indices
returns-clause-few g c =
    let n : length c.loop-index.all.items ≡ length c.args.state.now.validators =
    made_few _ _ c.loop-index.all.items (sym c.loop-index.invariant.made ∙ made_ends _ _ c.loop-index.index c.loop-index.all.items (omega arith)) in
    omega arith
