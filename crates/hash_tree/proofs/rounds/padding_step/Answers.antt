use Rattle.std.proofs.Common.{ap, ◌∙◌, slice_index}
use Rattle.std.proofs.lemmas.List.{get_or-replicate}
use Rattle.sha2.specs.Sha256.{round}
use Rattle.hash_tree.specs.declared.constants.TheConstants.{PADDING_SUMS}
use Rattle.hash_tree.specs.inside.Lanes.{variables}
use Rattle.hash_tree.proofs.Padding.{padding_round}
use Rattle.hash_tree.proofs.rounds.padding_step.Goals as goal

pub returns : goal.returns
returns g c j h less before =
    let v = variables j c.args.v in
    padding_round h v c.args.t _ before
    (c.round.ensures j less ∙ ap (round v (slice_index PADDING_SUMS c.args.t)) (get_or-replicate g.row.N j 0 0 less))
