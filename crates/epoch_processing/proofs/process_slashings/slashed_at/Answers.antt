use Rattle.std.proofs.Common.{ap, ◌∙◌}
use Rattle.std.specs.Prelude.{unwrap_or}
use Rattle.std.proofs.lemmas.Option.{unwrap_or-slice_get}
use Rattle.epoch_processing.proofs.process_slashings.slashed_at.Goals as goal

pub returns : goal.returns
returns c = c.unwrap_or.ensures ∙ ap (λ o. unwrap_or o 0) c.slashings_at.ensures ∙ unwrap_or-slice_get c.args.state.now.slashings c.args.i 0
