-- Each exit is one step of the run: the configuration could not be read, has a fault, or the genesis state comes next.
use Rattle.std.proofs.Common.{◌≡◌, [], ◌∷◌, Err, Ok}
use Rattle.bc_preset.specs.Configs.{config_of}
use Rattle.beacon_node.specs.inside.Files.{records_named}
use Rattle.one_chain.specs.declared.status.Status.TheVariants as statuses
use Rattle.beacon_node.proofs.Found.{unread_is_not_done}
use Rattle.beacon_node.proofs.Forensics.{unread_config, config_stops, config_goes_on}
use Rattle.one_chain.proofs.Outside.{only_shelf, outside_then, ends_here, no_fault, unread_causes}
use Rattle.beacon_node.proofs.forensic.forensic.Goals as goal

pub returns-in-Err-clause-answers : goal.returns-in-Err-clause-answers
returns-in-Err-clause-answers g c =
    rw c.unread.ensures (unread_config c.args.report (records_named c.args.files.now) c.in-Err.trouble _ _ _ c.in-Err.ensures.reads)

pub returns-in-Ok-read-clause-answers : goal.returns-in-Ok-read-clause-answers
returns-in-Ok-read-clause-answers g c =
    let gives : Ok c.in-Ok-read.config ≡ config_of c.in-Ok.bytes.items = rw c.deref.ensures.value at c.in-Ok-read.ensures in
    config_goes_on c.args.report (records_named c.args.files.now) c.in-Ok.bytes.items _ _ c.in-Ok.ensures.reads _ _ _ c.in-Ok-read.config c.tell_genesis.result gives c.tell_genesis.ensures.answers

pub returns-clause-answers : goal.returns-clause-answers
returns-clause-answers g c =
    let gives : Err c.in-Err-read.fault ≡ config_of c.in-Ok.bytes.items = rw c.deref.ensures.value at c.in-Err-read.ensures in
    config_stops c.args.report (records_named c.args.files.now) c.in-Ok.bytes.items _ _ c.in-Ok.ensures.reads _ c.in-Err-read.fault gives

pub returns-in-Ok-read-clause-outside : goal.returns-in-Ok-read-clause-outside
returns-in-Ok-read-clause-outside g c =
    outside_then (c.args.files.now.config.now ∷ []) (c.args.files.now.genesis.now ∷ c.args.files.now.first.now ∷ c.args.files.now.second.now ∷ []) (only_shelf c.read_named.ensures.keeps) c.tell_genesis.ensures.outside

pub returns-in-Err-clause-outside : goal.returns-in-Err-clause-outside
returns-in-Err-clause-outside g c =
    rw c.unread.ensures (ends_here (c.args.files.now.config.now ∷ []) (c.args.files.now.genesis.now ∷ c.args.files.now.first.now ∷ c.args.files.now.second.now ∷ []) (only_shelf c.read_named.ensures.keeps) (unread_causes c.in-Err.trouble c.in-Err.ensures.causes))

pub returns-clause-outside : goal.returns-clause-outside
returns-clause-outside g c =
    ends_here (c.args.files.now.config.now ∷ []) (c.args.files.now.genesis.now ∷ c.args.files.now.first.now ∷ c.args.files.now.second.now ∷ []) (only_shelf c.read_named.ensures.keeps) (no_fault (statuses.Config c.in-Err-read.fault) (λ is. cc) (λ is. cc))

pub returns-in-Err-clause-reports : goal.returns-in-Err-clause-reports
returns-in-Err-clause-reports g c = λ is. unread_is_not_done c.in-Err.trouble (rw c.unread.ensures at is)
