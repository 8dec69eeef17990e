use Rattle.std.proofs.Common.{ℕ, List, [], Option, take}
use Rattle.std.specs.Io.KnownBytes.{Appends, Keeps}
use Rattle.std.proofs.KnownBytes.{Appends-kept, Appends-nil, Appends-trans}
use Rattle.bc_outside.proofs.patience.write.Goals as goal

-- What a write appended behind writes that appended nothing.
kept_appended : (a b c : Option (List ℕ)) (bs : List ℕ) → Keeps a b → Appends b c bs → Appends a c bs
kept_appended a b c bs p q = Appends-trans a b c [] bs (Appends-kept a a b [] (Appends-nil a) p) q

pub returns-in-Ok-clause-bytes : goal.returns-in-Ok-clause-bytes
returns-in-Ok-clause-bytes g c =
    kept_appended (g.W.Write.contents c.args.writer.now) (g.W.Write.contents c.loop.writer) (g.W.Write.contents c.write_some.new.writer) (take c.in-Ok.taken c.args.piece.now) c.loop.invariant.kept c.in-Ok.ensures.bytes
