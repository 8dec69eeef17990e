use Rattle.ssz_codec.proofs.RowRead.{first_unread, others_unread, all_read, none_read}
use Rattle.ssz_codec.proofs.rows.Tuple2Row.read_parts.Goals as goal

pub returns-in-Err : goal.returns-in-Err
returns-in-Err g c = first_unread c.in-Err.fault g.A.Ssz.codec g.R.Row.reading (λ part. part.now) c.args.parts.now _ c.in-len1-up.len_at_least c.in-Err.ensures

pub returns-in-empty : goal.returns-in-empty
returns-in-empty g c = none_read g.A.Ssz.codec g.R.Row.reading (λ part. part.now) c.args.parts.now c.in-empty.len_below

pub returns-in-Ok-read_parts : goal.returns-in-Ok-read_parts
returns-in-Ok-read_parts g c =
    all_read g.A.Ssz.codec g.R.Row.reading (λ part. part.now) c.args.parts.now _ c.in-Ok.value c.in-Ok-read_parts.rest c.in-len1-up.len_at_least c.in-Ok.ensures c.in-Ok-read_parts.ensures

pub returns-in-Err-read_parts : goal.returns-in-Err-read_parts
returns-in-Err-read_parts g c =
    others_unread c.in-Err-read_parts.fault g.A.Ssz.codec g.R.Row.reading (λ part. part.now) c.args.parts.now _ c.in-Ok.value c.in-len1-up.len_at_least c.in-Ok.ensures c.in-Err-read_parts.ensures
