use Rattle.std.proofs.Common.{◌≡◌, ◌∙◌, sym, ap, arith, true, false, Some}
use Rattle.std.specs.Str.{bytes_eq}
use Rattle.bc_outside.proofs.Held.{found_here, not_here, not_there}
use Rattle.bc_outside.proofs.memory_shelf.find.Goals as goal

pub returns-then-eq : goal.returns-then-eq
returns-then-eq c =
    let same : bytes_eq c.file-item.result.name c.args.name.now ≡ true = rw (← c.name.ensures) (sym c.eq.ensures ∙ c.if-eq.true) in
    found_here c.args.files.now c.loop-file.file-index c.file-item.result c.args.name.now (omega arith) c.file-item.is c.loop-file.invariant same ∙ ap Some (sym c.bytes.ensures)

pub loop-file-preserved : goal.loop-file-preserved
loop-file-preserved c =
    let same : bytes_eq c.file-item.result.name c.args.name.now ≡ false = rw (← c.name.ensures) (sym c.eq.ensures ∙ c.if-eq.false) in
    not_here c.args.files.now c.loop-file.file-index c.file-item.result c.args.name.now (omega arith) c.file-item.is c.loop-file.invariant same

pub returns : goal.returns
returns c = not_there c.args.files.now c.loop-file.file-index c.args.name.now (omega arith) c.loop-file.invariant
