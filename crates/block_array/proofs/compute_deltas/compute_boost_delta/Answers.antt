use Rattle.std.proofs.Common.{◌≡◌, false, sym, ap, ◌∙◌}
use Rattle.std.specs.Option.{option_map_or}
use Rattle.block_array.specs.declared.tally.Counted.{Counted}
use Rattle.block_array.specs.GetLatestAttestingBalance.{proposer_score}
use Rattle.block_array.specs.inside.Counts.{nothing}
use Rattle.block_array.specs.inside.Held.{boost_due}
use Rattle.block_array.proofs.compute_deltas.compute_boost_delta.Goals as goal

pub returns-in-Some : goal.returns-in-Some
unfolding boost_due
returns-in-Some c =
    c.set_boost.ensures
    ∙ ap (λ (b : Counted). record c.args.tally.now { boost = b })
    (ap (λ score. record { node = c.in-Some.node; balance = score; changed = false }) c.proposer_score.ensures.exact
    ∙ ap (λ o. option_map_or (λ boosted. record { node = boosted; balance = proposer_score c.args.inputs.now.array; changed = false }) o nothing) (sym c.in-Some.is ∙ c.boosted_node.ensures))

pub returns-in-None : goal.returns-in-None
unfolding boost_due
returns-in-None c =
    let none : boost_due c.args.inputs.now.array ≡ record { node = 0; balance = 0; changed = false } =
    ap (λ o. option_map_or (λ boosted. record { node = boosted; balance = proposer_score c.args.inputs.now.array; changed = false }) o nothing) (sym c.boosted_node.ensures ∙ c.in-None.is) in
    cc
