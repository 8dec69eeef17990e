-- Each bit moves up a place.
use Rattle.std.proofs.Common.{rules}
use Rattle.spec_epochs.specs.Weigh.{shifted}
use Rattle.epoch_processing.proofs.weigh_justification_and_finalization.shifted.Goals as goal

pub returns : goal.returns
unfolding shifted
returns c = search rules
