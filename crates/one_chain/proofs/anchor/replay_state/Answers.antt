-- Each exit is one step of the run: the state could not be read, has a fault, or the block comes next.
use Rattle.std.proofs.Common.{[], ◌∷◌, Err, Ok}
use Rattle.spec_fork_choice.specs.Anchor.{anchor_state_of}
use Rattle.one_chain.specs.inside.AnchorAnswers.{GivesAnchor}
use Rattle.one_chain.proofs.Outside.{only_shelf, outside_then, ends_here, unread_causes, anchor_causes}
use Rattle.one_chain.proofs.AnchorReaders.{unread_state, state_stops, state_goes_on}
use Rattle.one_chain.proofs.anchor.replay_state.Goals as goal

pub returns-in-Err-clause-answers : goal.returns-in-Err-clause-answers
returns-in-Err-clause-answers g c =
    rw c.unread.ensures (unread_state c.args.config.now c.args.state_name.now c.args.block_name.now c.args.record_name.now c.in-Err.trouble _ _ _ c.in-Err.ensures.reads)

pub returns-in-Ok-read_state-clause-answers : goal.returns-in-Ok-read_state-clause-answers
returns-in-Ok-read_state-clause-answers g c =
    let gives : GivesAnchor (Ok c.in-Ok-read_state.state) (anchor_state_of c.args.config.now.preset c.in-Ok.bytes.items) = rw (c.preset.ensures.exact, c.deref.ensures.value) at c.in-Ok-read_state.ensures.gives in
    state_goes_on c.args.config.now c.args.state_name.now c.args.block_name.now c.args.record_name.now c.in-Ok.bytes.items _ _ c.in-Ok.ensures.reads _ _ _ c.in-Ok-read_state.state c.replay_block.result gives c.replay_block.ensures.answers

pub returns-in-Err-read_state-clause-answers : goal.returns-in-Err-read_state-clause-answers
returns-in-Err-read_state-clause-answers g c =
    let gives : GivesAnchor (Err c.in-Err-read_state.stop) (anchor_state_of c.args.config.now.preset c.in-Ok.bytes.items) = rw (c.preset.ensures.exact, c.deref.ensures.value) at c.in-Err-read_state.ensures.gives in
    rw c.no_anchor.ensures (state_stops c.args.config.now c.args.state_name.now c.args.block_name.now c.args.record_name.now c.in-Ok.bytes.items _ _ c.in-Ok.ensures.reads _ c.in-Err-read_state.stop gives)

pub returns-in-Ok-read_state-clause-outside : goal.returns-in-Ok-read_state-clause-outside
returns-in-Ok-read_state-clause-outside g c =
    outside_then (c.args.state_name.now ∷ []) (c.args.block_name.now ∷ c.args.record_name.now ∷ []) (only_shelf c.read_named.ensures.keeps) c.replay_block.ensures.outside

pub returns-in-Err-clause-outside : goal.returns-in-Err-clause-outside
returns-in-Err-clause-outside g c =
    rw c.unread.ensures (ends_here (c.args.state_name.now ∷ []) (c.args.block_name.now ∷ c.args.record_name.now ∷ []) (only_shelf c.read_named.ensures.keeps) (unread_causes c.in-Err.trouble c.in-Err.ensures.causes))

pub returns-in-Err-read_state-clause-outside : goal.returns-in-Err-read_state-clause-outside
returns-in-Err-read_state-clause-outside g c =
    rw c.no_anchor.ensures (ends_here (c.args.state_name.now ∷ []) (c.args.block_name.now ∷ c.args.record_name.now ∷ []) (only_shelf c.read_named.ensures.keeps) (anchor_causes c.in-Err-read_state.stop))
