-- The keeper of one block.
use Rattle.std.proofs.Common.{refl}
use Rattle.state_keeper.specs.inside.Entries.{place_of}
use Rattle.state_keeper.proofs.Keeps.{keeps_first}
use Rattle.state_keeper.proofs.keeper.Keeper.new.Goals as goal

pub invariant_of-result : goal.invariant_of-result
invariant_of-result g c =
    keeps_first (g.P.Stepper.can_step c.args.stepper) (g.P.Stepper.plain_step c.args.stepper) c.in_ok-entries.entries.items c.in_ok-entries.states.items c.in_ok-entries.cache.entries
    (record { block = c.args.block; parent = 0; distance = 0; kept = place_of 0 0; state = c.of-seen.result })
    c.args.state c.in_ok-entries.ensures.entries c.in_ok-entries.ensures.cache refl refl c.in_ok-entries.ensures.states c.of-seen.ensures
