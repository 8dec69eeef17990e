-- Each exit is one step of the run: the state could not be read, has a fault, or is asked.
use Rattle.std.proofs.Common.{[], ◌∷◌, Err, Ok}
use Rattle.spec_replay.specs.Duties.{sound_state_of}
use Rattle.one_chain.specs.inside.Duties.{GivesState}
use Rattle.one_chain.proofs.Duties.{unread_state_file, state_stops, state_concludes, state_causes}
use Rattle.one_chain.proofs.Whole.{concludes_outside}
use Rattle.one_chain.proofs.Outside.{only_shelf, ends_here, unread_causes}
use Rattle.one_chain.proofs.tell_duties.tell_of_file.Goals as goal

pub returns-in-Err-clause-answers : goal.returns-in-Err-clause-answers
returns-in-Err-clause-answers g c =
    rw c.unread.ensures (unread_state_file c.args.config.now c.args.epoch c.args.name.now c.in-Err.trouble _ _ _ c.in-Err.ensures.reads)

pub returns-in-Ok-read_state-clause-answers : goal.returns-in-Ok-read_state-clause-answers
returns-in-Ok-read_state-clause-answers g c =
    let gives : GivesState (Ok c.in-Ok-read_state.state) (sound_state_of c.args.config.now.preset c.in-Ok.bytes.items) = rw (c.preset.ensures.exact, c.deref.ensures.value) at c.in-Ok-read_state.ensures in
    state_concludes c.args.config.now c.args.epoch c.args.name.now c.in-Ok.bytes.items _ _ c.in-Ok.ensures.reads c.in-Ok-read_state.state c.tell_of_state.result _ _ gives c.tell_of_state.ensures

pub returns-in-Err-read_state-clause-answers : goal.returns-in-Err-read_state-clause-answers
returns-in-Err-read_state-clause-answers g c =
    let gives : GivesState (Err c.in-Err-read_state.stop) (sound_state_of c.args.config.now.preset c.in-Ok.bytes.items) = rw (c.preset.ensures.exact, c.deref.ensures.value) at c.in-Err-read_state.ensures in
    rw c.no_state.ensures (state_stops c.args.config.now c.args.epoch c.args.name.now c.in-Ok.bytes.items _ _ c.in-Ok.ensures.reads _ c.in-Err-read_state.stop gives)

pub returns-in-Ok-read_state-clause-command : goal.returns-in-Ok-read_state-clause-command
returns-in-Ok-read_state-clause-command g c = c.tell_of_state.ensures.has_words

pub returns-in-Ok-read_state-clause-outside : goal.returns-in-Ok-read_state-clause-outside
returns-in-Ok-read_state-clause-outside g c = concludes_outside (c.args.name.now ∷ []) c.tell_of_state.result c.read_named.ensures.keeps c.tell_of_state.ensures

pub returns-in-Err-clause-outside : goal.returns-in-Err-clause-outside
returns-in-Err-clause-outside g c =
    rw c.unread.ensures (ends_here (c.args.name.now ∷ []) [] (only_shelf c.read_named.ensures.keeps) (unread_causes c.in-Err.trouble c.in-Err.ensures.causes))

pub returns-in-Err-read_state-clause-outside : goal.returns-in-Err-read_state-clause-outside
returns-in-Err-read_state-clause-outside g c =
    rw c.no_state.ensures (ends_here (c.args.name.now ∷ []) [] (only_shelf c.read_named.ensures.keeps) (state_causes c.in-Err-read_state.stop))
