use Rattle.std.proofs.Common.{Option, option_map, unwrap_or, sym, ap}
use Rattle.state_keeper.specs.declared.entry.Entry.{Entry}
use Rattle.state_keeper.proofs.Items.{found, not_found}
use Rattle.state_keeper.proofs.remade.distance_at.Goals as goal

pub returns-in-Some : goal.returns-in-Some
returns-in-Some g c = sym (ap (λ (o : Option (Entry _ _)). unwrap_or (option_map (λ e. e.distance) o) 0) (found c.args.entries.now c.args.n c.in-Some.entry.now c.in-Some.ensures.lookup.0 c.in-Some.ensures.lookup.1))

pub returns-in-None : goal.returns-in-None
returns-in-None g c = sym (ap (λ (o : Option (Entry _ _)). unwrap_or (option_map (λ e. e.distance) o) 0) (not_found c.args.entries.now c.args.n c.in-None.ensures.lookup.0))
