-- A sink that failed is a fault of writing.
use Rattle.std.proofs.Common.{rules}
use Rattle.one_chain.proofs.writing.unwritten.Goals as goal

pub returns-in-Failed : goal.returns-in-Failed
returns-in-Failed c = search rules
