-- Two thirds are enough.
use Rattle.std.proofs.Common.{rules}
use Rattle.bc_words.specs.Outcome.{checked_mul}
use Rattle.spec_epochs.specs.Weigh.{reaches_two_thirds}
use Rattle.epoch_processing.proofs.weigh_justification_and_finalization.reaches_two_thirds.Goals as goal

pub returns : goal.returns
unfolding reaches_two_thirds checked_mul
returns c = search rules
