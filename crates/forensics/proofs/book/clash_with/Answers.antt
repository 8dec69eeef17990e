use Rattle.std.proofs.Common.{arith}
use Rattle.forensics.proofs.Histories.{clash_fits}
use Rattle.forensics.proofs.book.clash_with.Goals as goal

pub overflow_cast-result : goal.overflow_cast-result
overflow_cast-result c = let h = clash_fits c.args.first.now c.args.root c.args.block.now c.in-Some.place c.in-Some.ensures in omega arith

pub overflow_cast-result-in-Some-clash : goal.overflow_cast-result-in-Some-clash
overflow_cast-result-in-Some-clash c = let h = clash_fits c.args.second.now c.args.root c.args.block.now c.in-Some-clash.place c.in-Some-clash.ensures in omega arith
