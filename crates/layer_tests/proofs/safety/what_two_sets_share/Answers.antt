-- 30 of 40 are two thirds.
use Rattle.std.proofs.Common.{arith}
use Rattle.ffg_law.specs.Weights.{weight_from, among}
use Rattle.layer_tests.proofs.safety.what_two_sets_share.Goals as goal

pub thirds_overlap-requires-clause-first_thirds : goal.thirds_overlap-requires-clause-first_thirds
unfolding weight_from among
thirds_overlap-requires-clause-first_thirds g c = omega arith

pub thirds_overlap-requires-clause-second_thirds : goal.thirds_overlap-requires-clause-second_thirds
unfolding weight_from among
thirds_overlap-requires-clause-second_thirds g c = omega arith
