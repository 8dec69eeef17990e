-- The test of the code is that of the definition.
use Rattle.spec_fork_choice.proofs.Soundness.{tested}
use Rattle.fork_store.proofs.anchor.tests_sound.Goals as goal

pub returns-in-Ok : goal.returns-in-Ok
returns-in-Ok c = tested c.args.state.now c.in-Ok.sound c.in-Ok.ensures
