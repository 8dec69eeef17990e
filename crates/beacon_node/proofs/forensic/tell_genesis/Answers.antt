-- Each exit is one step of the run: the genesis file could not be read, has a fault, or the records come next.
use Rattle.std.proofs.Common.{◌∙◌, [], ◌∷◌, Err, Ok}
use Rattle.spec_state.specs.Genesis.{genesis_of}
use Rattle.beacon_node.specs.inside.Files.{records_named}
use Rattle.one_chain.specs.inside.GenesisAnswers.{GivesGenesis}
use Rattle.beacon_node.proofs.Beginnings.{few_validators}
use Rattle.beacon_node.proofs.Found.{no_genesis_is_not_done, unread_is_not_done}
use Rattle.beacon_node.proofs.Forensics.{unread_genesis, genesis_stops, genesis_goes_on}
use Rattle.one_chain.proofs.Outside.{only_shelf, outside_then, ends_here, unread_causes, genesis_causes}
use Rattle.beacon_node.proofs.forensic.tell_genesis.Goals as goal

pub tell_from-requires-clause-genesis : goal.tell_from-requires-clause-genesis
tell_from-requires-clause-genesis g c = record {
  preset = c.in-Ok-read_genesis.ensures.preset ∙ c.preset.ensures.exact;
  checked = c.in-Ok-read_genesis.ensures.checked;
  state = c.in-Ok-read_genesis.ensures.state;
  range = c.in-Ok-read_genesis.ensures.range;
  few = few_validators _ c.in-Ok-read_genesis.ensures.range c.in-Ok-read_genesis.ensures.written;
}

pub returns-in-Err-clause-answers : goal.returns-in-Err-clause-answers
returns-in-Err-clause-answers g c =
    rw c.unread.ensures (unread_genesis c.args.report c.args.config.now (records_named c.args.files.now) c.in-Err.trouble _ _ _ c.in-Err.ensures.reads)

pub returns-in-Ok-read_genesis-clause-answers : goal.returns-in-Ok-read_genesis-clause-answers
returns-in-Ok-read_genesis-clause-answers g c =
    let gives : GivesGenesis (Ok c.in-Ok-read_genesis.state) (genesis_of c.args.config.now.preset c.in-Ok.bytes.items) = rw (c.preset.ensures.exact, c.deref.ensures.value) at c.in-Ok-read_genesis.ensures.gives in
    genesis_goes_on c.args.report c.args.config.now (records_named c.args.files.now) c.in-Ok.bytes.items _ _ c.in-Ok.ensures.reads _ _ _ c.in-Ok-read_genesis.state c.tell_from.result gives c.tell_from.ensures.answers

pub returns-in-Err-read_genesis-clause-answers : goal.returns-in-Err-read_genesis-clause-answers
returns-in-Err-read_genesis-clause-answers g c =
    let gives : GivesGenesis (Err c.in-Err-read_genesis.stop) (genesis_of c.args.config.now.preset c.in-Ok.bytes.items) = rw (c.preset.ensures.exact, c.deref.ensures.value) at c.in-Err-read_genesis.ensures.gives in
    rw c.no_genesis.ensures (genesis_stops c.args.report c.args.config.now (records_named c.args.files.now) c.in-Ok.bytes.items _ _ c.in-Ok.ensures.reads _ c.in-Err-read_genesis.stop gives)

pub returns-in-Ok-read_genesis-clause-outside : goal.returns-in-Ok-read_genesis-clause-outside
returns-in-Ok-read_genesis-clause-outside g c =
    outside_then (c.args.files.now.genesis.now ∷ []) (c.args.files.now.first.now ∷ c.args.files.now.second.now ∷ []) (only_shelf c.read_named.ensures.keeps) c.tell_from.ensures.outside

pub returns-in-Err-clause-outside : goal.returns-in-Err-clause-outside
returns-in-Err-clause-outside g c =
    rw c.unread.ensures (ends_here (c.args.files.now.genesis.now ∷ []) (c.args.files.now.first.now ∷ c.args.files.now.second.now ∷ []) (only_shelf c.read_named.ensures.keeps) (unread_causes c.in-Err.trouble c.in-Err.ensures.causes))

pub returns-in-Err-read_genesis-clause-outside : goal.returns-in-Err-read_genesis-clause-outside
returns-in-Err-read_genesis-clause-outside g c =
    rw c.no_genesis.ensures (ends_here (c.args.files.now.genesis.now ∷ []) (c.args.files.now.first.now ∷ c.args.files.now.second.now ∷ []) (only_shelf c.read_named.ensures.keeps) (genesis_causes c.in-Err-read_genesis.stop))

pub returns-in-Err-clause-reports : goal.returns-in-Err-clause-reports
returns-in-Err-clause-reports g c = λ is. unread_is_not_done c.in-Err.trouble (rw c.unread.ensures at is)

pub returns-in-Err-read_genesis-clause-reports : goal.returns-in-Err-read_genesis-clause-reports
returns-in-Err-read_genesis-clause-reports g c = λ is. no_genesis_is_not_done c.in-Err-read_genesis.stop (rw c.no_genesis.ensures at is)
