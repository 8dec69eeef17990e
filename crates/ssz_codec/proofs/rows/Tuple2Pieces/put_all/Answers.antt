use Rattle.ssz_codec.proofs.Written.{both_written, front_written}
use Rattle.ssz_codec.proofs.rows.Tuple2Pieces.put_all.Goals as goal

pub returns-in-Ok-clause-ok : goal.returns-in-Ok-clause-ok
returns-in-Ok-clause-ok g c = both_written c.put_all.result c.args.out.now _ _ c.put.new.out c.put_all.new.out c.in-Ok.ensures.ok c.put_all.ensures.ok

pub returns-in-Ok-clause-err : goal.returns-in-Ok-clause-err
returns-in-Ok-clause-err g c = front_written c.put_all.result c.args.out.now _ c.put.new.out c.put_all.new.out c.in-Ok.ensures.ok c.put_all.ensures.err
