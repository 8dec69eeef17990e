-- Each exit is one step of the run: the genesis file could not be read, has a fault, or the record comes next.
use Rattle.std.proofs.Common.{[], ◌∷◌, Err, Ok}
use Rattle.spec_state.specs.Genesis.{genesis_of}
use Rattle.one_chain.specs.inside.GenesisAnswers.{GivesGenesis}
use Rattle.one_chain.proofs.Outside.{only_shelf, outside_then, ends_here, unread_causes, genesis_causes}
use Rattle.one_chain.proofs.Readers.{unread_genesis, genesis_stops, genesis_goes_on}
use Rattle.one_chain.proofs.replay.replay_genesis.Goals as goal

pub returns-in-Err-clause-answers : goal.returns-in-Err-clause-answers
returns-in-Err-clause-answers g c =
    rw c.unread.ensures (unread_genesis c.args.config.now c.args.genesis_name.now c.args.record_name.now c.in-Err.trouble _ _ _ c.in-Err.ensures.reads)

pub returns-in-Ok-read_genesis-clause-answers : goal.returns-in-Ok-read_genesis-clause-answers
returns-in-Ok-read_genesis-clause-answers g c =
    let gives : GivesGenesis (Ok c.in-Ok-read_genesis.state) (genesis_of c.args.config.now.preset c.in-Ok.bytes.items) = rw (c.preset.ensures.exact, c.deref.ensures.value) at c.in-Ok-read_genesis.ensures.gives in
    genesis_goes_on c.args.config.now c.args.genesis_name.now c.args.record_name.now c.in-Ok.bytes.items _ _ c.in-Ok.ensures.reads _ _ _ c.in-Ok-read_genesis.state c.replay_from.result gives c.replay_from.ensures.answers

pub returns-in-Err-read_genesis-clause-answers : goal.returns-in-Err-read_genesis-clause-answers
returns-in-Err-read_genesis-clause-answers g c =
    let gives : GivesGenesis (Err c.in-Err-read_genesis.stop) (genesis_of c.args.config.now.preset c.in-Ok.bytes.items) = rw (c.preset.ensures.exact, c.deref.ensures.value) at c.in-Err-read_genesis.ensures.gives in
    rw c.no_genesis.ensures (genesis_stops c.args.config.now c.args.genesis_name.now c.args.record_name.now c.in-Ok.bytes.items _ _ c.in-Ok.ensures.reads _ c.in-Err-read_genesis.stop gives)

pub returns-in-Ok-read_genesis-clause-outside : goal.returns-in-Ok-read_genesis-clause-outside
returns-in-Ok-read_genesis-clause-outside g c =
    outside_then (c.args.genesis_name.now ∷ []) (c.args.record_name.now ∷ []) (only_shelf c.read_named.ensures.keeps) c.replay_from.ensures.outside

pub returns-in-Err-clause-outside : goal.returns-in-Err-clause-outside
returns-in-Err-clause-outside g c =
    rw c.unread.ensures (ends_here (c.args.genesis_name.now ∷ []) (c.args.record_name.now ∷ []) (only_shelf c.read_named.ensures.keeps) (unread_causes c.in-Err.trouble c.in-Err.ensures.causes))

pub returns-in-Err-read_genesis-clause-outside : goal.returns-in-Err-read_genesis-clause-outside
returns-in-Err-read_genesis-clause-outside g c =
    rw c.no_genesis.ensures (ends_here (c.args.genesis_name.now ∷ []) (c.args.record_name.now ∷ []) (only_shelf c.read_named.ensures.keeps) (genesis_causes c.in-Err-read_genesis.stop))
