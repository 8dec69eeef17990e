use Rattle.std.proofs.Common.{arith}
use Rattle.genesis_maker.proofs.deposits_file.made_of.Goals as goal

pub make_genesis-requires-clause-few : goal.make_genesis-requires-clause-few
make_genesis-requires-clause-few c = omega (arith, c.requires.short)
