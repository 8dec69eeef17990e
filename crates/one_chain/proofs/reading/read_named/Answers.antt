-- The file could not be opened, or it was read.
use Rattle.std.proofs.Common.{[], ◌∷◌}
use Rattle.std.proofs.lemmas.Result.{err_from_is_err_and}
use Rattle.bc_outside.proofs.Keeping.{keeps_then}
use Rattle.one_chain.proofs.Steps.{read_of, unopened}
use Rattle.one_chain.proofs.reading.read_named.Goals as goal

pub returns-clause-reads : goal.returns-clause-reads
returns-clause-reads g c = read_of (λ bytes. bytes.items) c.args.name.now c.args.limit c.in_ok-file.file c.read_at_most.result _ _ _ c.in_ok-file.ensures.opens c.read_at_most.ensures.reads

pub returns-clause-keeps : goal.returns-clause-keeps
returns-clause-keeps g c = keeps_then (c.args.name.now ∷ []) [] c.open.ensures.keeps c.read_at_most.ensures.keeps

pub returns-in_err-file-clause-reads : goal.returns-in_err-file-clause-reads
returns-in_err-file-clause-reads g c =
    let p = err_from_is_err_and c.from_residual.result c.from_residual.ensures.1 in
    rw p.1 (unopened c.args.name.now c.in_err-file.field-0.0 _ _ c.in_err-file.ensures.opens)
