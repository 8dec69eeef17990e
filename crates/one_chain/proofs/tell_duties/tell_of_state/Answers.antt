-- The duties are told, or they can't be.
use Rattle.std.proofs.Common.{ap}
use Rattle.bc_preset.specs.declared.presets.Preset.{Preset}
use Rattle.one_chain.proofs.Duties.{duties_conclude, duties_stop, slots_fit}
use Rattle.one_chain.proofs.tell_duties.tell_of_state.Goals as goal

pub write_duties-requires : goal.write_duties-requires
write_duties-requires g c =
    slots_fit c.args.state.now c.args.epoch _ c.in-Ok.duties c.in-Ok.ensures.answers.1 c.in-Ok.ensures.table.0 (ap (λ (p : Preset). p.slots_per_epoch) c.preset.ensures.same)

pub returns-in-Ok : goal.returns-in-Ok
returns-in-Ok g c =
    rw c.written.ensures (duties_conclude c.args.state.now c.args.epoch _ c.in-Ok.duties c.write_duties.result c.in-Ok.ensures.answers c.in-Ok.ensures.table.0 c.in-Ok.ensures.table.1 (ap (λ (p : Preset). p.slots_per_epoch) c.preset.ensures.same) c.write_duties.ensures)

pub returns-in-Err : goal.returns-in-Err
returns-in-Err g c = rw c.no_duties.ensures (duties_stop c.args.state.now c.args.epoch c.in-Err.stop _ c.in-Err.ensures.answers)
