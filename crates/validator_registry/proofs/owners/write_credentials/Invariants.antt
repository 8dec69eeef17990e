-- The credentials written so far are the validators'.
use Rattle.std.proofs.Common.{◌≡◌, length, take, map}
use Rattle.validator_registry.proofs.owners.write_credentials.Given as goal

abbrev pub invariant-credentials : goal.invariant-credentials
invariant-credentials l = record {
  room : length l.out ≡ length l.validators;
  so_far : take l.i l.out ≡ map (λ v. v.withdrawal_credentials) (take l.i l.validators);
}
