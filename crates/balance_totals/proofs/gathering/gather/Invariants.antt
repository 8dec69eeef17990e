use Rattle.std.proofs.Common.{◌≡◌, ◌||◌, ◌++◌, map}
use Rattle.std.specs.List.{list_any}
use Rattle.balance_totals.specs.inside.Stakes.{stake_of}
use Rattle.balance_totals.specs.inside.Stirring.{stirs, registry_stirs}
use Rattle.balance_totals.proofs.gathering.gather.Given as goal

abbrev pub invariant-loop-validator : goal.invariant-loop-validator
invariant-loop-validator l = record {
  list : l.list.items ++ map (stake_of l.previous) l.validator-iterator ≡ map (stake_of l.previous) l.state.validators;
  asked : l.any || list_any (stirs l.state.preset l.config l.epoch) l.validator-iterator ≡ registry_stirs l.state l.config;
}
