-- The pairs written so far are the members'.
use Rattle.std.proofs.Common.{◌≡◌, length, take, map}
use Rattle.validator_registry.specs.inside.Groups.{validators_of}
use Rattle.validator_registry.proofs.MemberRoots.{status_pair}
use Rattle.validator_registry.proofs.roots.write_statuses.Given as goal

abbrev pub invariant-statuses : goal.invariant-statuses
invariant-statuses l = record { room : length l.pairs ≡ 16; so_far : take l.i l.pairs ≡ map status_pair (take l.i (validators_of l.members l.balances)) }
