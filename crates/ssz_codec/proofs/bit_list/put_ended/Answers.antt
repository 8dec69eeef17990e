use Rattle.ssz_codec.proofs.Written.{both_written, one_written}
use Rattle.ssz_codec.proofs.bit_list.put_ended.Goals as goal

pub returns-in-Ok-clause-ok : goal.returns-in-Ok-clause-ok
returns-in-Ok-clause-ok c = both_written c.put_bytes-in-Ok.result c.args.out.now c.args.front.now _ c.put_bytes.new.self c.put_bytes-in-Ok.new.self c.in-Ok.ensures.ok c.put_bytes-in-Ok.ensures.ok

pub returns-in-Ok-clause-err : goal.returns-in-Ok-clause-err
returns-in-Ok-clause-err c = one_written c.put_bytes-in-Ok.result c.args.out.now c.args.front.now c.put_bytes.new.self c.put_bytes-in-Ok.new.self c.in-Ok.ensures.ok c.put_bytes-in-Ok.ensures.err
