use Rattle.spec_state.proofs.Genesis.{genesis_sound}
use Rattle.transition.proofs.soundness.genesis_is_sound.Goals as goal

pub returns : goal.returns
returns c = genesis_sound
