-- So many validators so far.
use Rattle.std.proofs.Common.{◌≡◌, length}
use Rattle.layer_tests.proofs.registries.first_validators.Given as goal

abbrev pub invariant-all : goal.invariant-all
invariant-all l = length l.all.items ≡ l.k
