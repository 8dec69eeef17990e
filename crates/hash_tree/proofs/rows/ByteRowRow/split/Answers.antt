use Rattle.std.proofs.Common.{arith}
use Rattle.hash_tree.proofs.Chunks.{chunk_count, take-byte_chunks, drop-byte_chunks}
use Rattle.hash_tree.proofs.rows.ByteRowRow.split.Goals as goal

pub overflow_mul-at : goal.overflow_mul-at
overflow_mul-at c = omega (arith, chunk_count)

pub split_at-requires : goal.split_at-requires
split_at-requires c = omega (arith, chunk_count)

pub returns-clause-front : goal.returns-clause-front
returns-clause-front c =
    take-byte_chunks c.args.at c.args.self.now.bytes.now _ (omega (arith, chunk_count)) c.split_at.ensures.front

pub returns-clause-back : goal.returns-clause-back
returns-clause-back c =
    drop-byte_chunks c.args.at c.args.self.now.bytes.now _ (omega (arith, chunk_count)) c.split_at.ensures.back
