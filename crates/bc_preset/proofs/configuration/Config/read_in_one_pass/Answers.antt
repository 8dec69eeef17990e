-- What is too long is told before anything else.
use Rattle.std.proofs.Common.{refl}
use Rattle.std.proofs.lemmas.Bool.{lt-ltb}
use Rattle.bc_preset.specs.inside.OnePass.{one_pass}
use Rattle.bc_preset.proofs.configuration.Config.read_in_one_pass.Goals as goal

pub returns-then-too_long : goal.returns-then-too_long
unfolding one_pass
returns-then-too_long c = rw (lt-ltb _ _ c.if-too_long.true) refl
