-- The configuration could not be read, has a fault, or the chain is made.
use Rattle.std.proofs.Common.{◌≡◌, [], ◌∷◌, Err, Ok, refl}
use Rattle.bc_preset.specs.Configs.{config_of}
use Rattle.one_chain.specs.declared.status.Status.TheVariants as statuses
use Rattle.one_chain.proofs.Outside.{only_shelf, outside_then, ends_here, no_fault, unread_causes}
use Rattle.beacon_node.proofs.Drilled.{unread_drill, config_drills, bad_file}
use Rattle.beacon_node.proofs.drill.drill.Goals as goal

pub returns-in-Err-clause-answers : goal.returns-in-Err-clause-answers
returns-in-Err-clause-answers g c = rw c.unread.ensures (unread_drill c.args.words.now.number c.args.words.now.config.now c.in-Err.trouble _ _ _ c.in-Err.ensures.reads)

pub returns-in-Ok-read-clause-answers : goal.returns-in-Ok-read-clause-answers
returns-in-Ok-read-clause-answers g c =
    let gives : Ok c.in-Ok-read.config ≡ config_of c.in-Ok.bytes.items = rw c.deref.ensures.value at c.in-Ok-read.ensures in
    config_drills c.args.words.now.number c.args.words.now.config.now c.in-Ok.bytes.items _ _ c.in-Ok.ensures.reads (Ok c.in-Ok-read.config) c.drill_config.result _ _ _ gives c.drill_config.ensures.still c.drill_config.ensures.over

pub returns-clause-answers : goal.returns-clause-answers
returns-clause-answers g c =
    let gives : Err c.in-Err-read.fault ≡ config_of c.in-Ok.bytes.items = rw c.deref.ensures.value at c.in-Err-read.ensures in
    config_drills c.args.words.now.number c.args.words.now.config.now c.in-Ok.bytes.items _ _ c.in-Ok.ensures.reads (Err c.in-Err-read.fault) (statuses.Config c.in-Err-read.fault) _ _ _ gives refl (bad_file c.args.words.now.number c.in-Err-read.fault _)

pub returns-in-Ok-read-clause-outside : goal.returns-in-Ok-read-clause-outside
returns-in-Ok-read-clause-outside g c = outside_then (c.args.words.now.config.now ∷ []) [] (only_shelf c.read_named.ensures.keeps) c.drill_config.ensures.outside

pub returns-in-Err-clause-outside : goal.returns-in-Err-clause-outside
returns-in-Err-clause-outside g c =
    rw c.unread.ensures (ends_here (c.args.words.now.config.now ∷ []) [] (only_shelf c.read_named.ensures.keeps) (unread_causes c.in-Err.trouble c.in-Err.ensures.causes))

pub returns-clause-outside : goal.returns-clause-outside
returns-clause-outside g c =
    ends_here (c.args.words.now.config.now ∷ []) [] (only_shelf c.read_named.ensures.keeps) (no_fault (statuses.Config c.in-Err-read.fault) (λ is. cc) (λ is. cc))
