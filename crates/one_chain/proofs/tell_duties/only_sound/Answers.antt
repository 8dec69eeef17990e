-- The state is sound, or it isn't.
use Rattle.one_chain.proofs.Duties.{sound_state, unsound_state}
use Rattle.one_chain.proofs.tell_duties.only_sound.Goals as goal

pub returns-then-sound : goal.returns-then-sound
returns-then-sound c = sound_state c.args.state (rw c.if-sound.true at c.requires.tested)

pub returns-else-sound : goal.returns-else-sound
returns-else-sound c = unsound_state c.args.state (rw c.if-sound.false at c.requires.tested)
