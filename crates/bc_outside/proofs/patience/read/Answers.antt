use Rattle.std.proofs.Common.{ℕ, List, [], Option, take, arith}
use Rattle.std.specs.Io.KnownBytes.{Consumes, Keeps}
use Rattle.std.proofs.KnownBytes.{Consumes-kept, Consumes-nil, Consumes-trans, Keeps-trans}
use Rattle.std.proofs.lemmas.Grind.{common_steps}
use Rattle.bc_outside.proofs.patience.read.Goals as goal

-- What a read consumed behind reads that consumed nothing.
kept_consumed : (a b c : Option (List ℕ)) (bs : List ℕ) → Keeps a b → Consumes b c bs → Consumes a c bs
kept_consumed a b c bs p q = Consumes-trans a b c [] bs (Consumes-kept a a b [] (Consumes-nil a) p) q

pub returns-in-Ok-clause-bytes : goal.returns-in-Ok-clause-bytes
returns-in-Ok-clause-bytes g c =
    (kept_consumed (g.R.Read.remaining c.args.reader.now) (g.R.Read.remaining c.loop.reader) (g.R.Read.remaining c.read.new.self) (take c.in-Ok.n c.read.new.buf) c.loop.invariant.kept c.in-Ok.ensures.bytes.0, c.in-Ok.ensures.bytes.1)

pub returns-then-not-is_again-clause-bytes : goal.returns-then-not-is_again-clause-bytes
returns-then-not-is_again-clause-bytes g c =
    Keeps-trans (g.R.Read.remaining c.args.reader.now) (g.R.Read.remaining c.loop.reader) (g.R.Read.remaining c.read.new.self) c.loop.invariant.kept c.in-Err.ensures.bytes

pub loop-preserved : goal.loop-preserved
loop-preserved g c = record {
  tried = grind (arith, common_steps);
  kept = Keeps-trans (g.R.Read.remaining c.args.reader.now) (g.R.Read.remaining c.loop.reader) (g.R.Read.remaining c.read.new.self) c.loop.invariant.kept c.in-Err.ensures.bytes;
}
