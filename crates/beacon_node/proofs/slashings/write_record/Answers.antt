-- The first bytes, and then the frames.
use Rattle.std.proofs.lemmas.Result.{err_from_is_err_and}
use Rattle.spec_replay.specs.Slasher.{slashing_record}
use Rattle.one_chain.proofs.Texts.{written_then, first_partly}
use Rattle.beacon_node.proofs.slashings.write_record.Goals as goal

pub returns-in_err-write_magic : goal.returns-in_err-write_magic
unfolding slashing_record
returns-in_err-write_magic g c =
    let p = err_from_is_err_and c.from_residual.result c.from_residual.ensures.1 in
    rw (p.1, p.2) (first_partly _ _ c.in_err-write_magic.field-0.0 c.in_err-write_magic.ensures)

pub returns : goal.returns
unfolding slashing_record
returns g c = written_then _ _ c.in_ok-write_magic.field-0 c.write_slashings.result c.in_ok-write_magic.ensures c.write_slashings.ensures
