-- Each exit is one step of the run: the block could not be read, has a fault, or the record comes next.
use Rattle.std.proofs.Common.{[], ◌∷◌, Err, Ok}
use Rattle.spec_fork_choice.specs.Anchor.{anchor_block_of}
use Rattle.one_chain.specs.inside.AnchorAnswers.{GivesAnchor}
use Rattle.one_chain.proofs.Outside.{only_shelf, outside_then, ends_here, unread_causes, anchor_causes}
use Rattle.one_chain.proofs.AnchorReaders.{unread_block, block_stops, block_goes_on}
use Rattle.one_chain.proofs.anchor.replay_block.Goals as goal

pub returns-in-Err-clause-answers : goal.returns-in-Err-clause-answers
returns-in-Err-clause-answers g c =
    rw c.unread.ensures (unread_block c.args.config.now c.args.state c.args.block_name.now c.args.record_name.now c.in-Err.trouble _ _ _ c.in-Err.ensures.reads)

pub returns-in-Ok-read_block-clause-answers : goal.returns-in-Ok-read_block-clause-answers
returns-in-Ok-read_block-clause-answers g c =
    let gives : GivesAnchor (Ok c.in-Ok-read_block.block) (anchor_block_of c.args.config.now c.args.state c.in-Ok.bytes.items) = rw c.deref.ensures.value at c.in-Ok-read_block.ensures.gives in
    block_goes_on c.args.config.now c.args.state c.args.block_name.now c.args.record_name.now c.in-Ok.bytes.items _ _ c.in-Ok.ensures.reads _ _ _ c.in-Ok-read_block.block c.replay_from.result gives c.replay_from.ensures.answers

pub returns-in-Err-read_block-clause-answers : goal.returns-in-Err-read_block-clause-answers
returns-in-Err-read_block-clause-answers g c =
    let gives : GivesAnchor (Err c.in-Err-read_block.stop) (anchor_block_of c.args.config.now c.args.state c.in-Ok.bytes.items) = rw c.deref.ensures.value at c.in-Err-read_block.ensures.gives in
    rw c.no_anchor.ensures (block_stops c.args.config.now c.args.state c.args.block_name.now c.args.record_name.now c.in-Ok.bytes.items _ _ c.in-Ok.ensures.reads _ c.in-Err-read_block.stop gives)

pub returns-in-Ok-read_block-clause-outside : goal.returns-in-Ok-read_block-clause-outside
returns-in-Ok-read_block-clause-outside g c =
    outside_then (c.args.block_name.now ∷ []) (c.args.record_name.now ∷ []) (only_shelf c.read_named.ensures.keeps) c.replay_from.ensures.outside

pub returns-in-Err-clause-outside : goal.returns-in-Err-clause-outside
returns-in-Err-clause-outside g c =
    rw c.unread.ensures (ends_here (c.args.block_name.now ∷ []) (c.args.record_name.now ∷ []) (only_shelf c.read_named.ensures.keeps) (unread_causes c.in-Err.trouble c.in-Err.ensures.causes))

pub returns-in-Err-read_block-clause-outside : goal.returns-in-Err-read_block-clause-outside
returns-in-Err-read_block-clause-outside g c =
    rw c.no_anchor.ensures (ends_here (c.args.block_name.now ∷ []) (c.args.record_name.now ∷ []) (only_shelf c.read_named.ensures.keeps) (anchor_causes c.in-Err-read_block.stop))
