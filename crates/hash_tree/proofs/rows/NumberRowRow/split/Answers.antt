use Rattle.std.proofs.Common.{◌*◌, ap, ◌∙◌, arith}
use Rattle.hash_tree.specs.Merkle.{uints_to_bytes}
use Rattle.hash_tree.proofs.Chunks.{number_chunk_facts, take-byte_chunks, drop-byte_chunks, take-uints_to_bytes, drop-uints_to_bytes}
use Rattle.hash_tree.proofs.rows.NumberRowRow.split.Goals as goal

pub overflow_mul-at : goal.overflow_mul-at
overflow_mul-at c = omega (arith, number_chunk_facts)

pub split_at-requires : goal.split_at-requires
split_at-requires c = omega (arith, number_chunk_facts)

pub returns-clause-front : goal.returns-clause-front
returns-clause-front c =
    let numbers = c.args.self.now.numbers.now in
    take-byte_chunks c.args.at (uints_to_bytes numbers) _ (omega (arith, number_chunk_facts)) (ap uints_to_bytes c.split_at.ensures.front ∙ take-uints_to_bytes (c.args.at * 4) (c.args.at * 32) numbers (omega arith))

pub returns-clause-back : goal.returns-clause-back
returns-clause-back c =
    let numbers = c.args.self.now.numbers.now in
    drop-byte_chunks c.args.at (uints_to_bytes numbers) _ (omega (arith, number_chunk_facts)) (ap uints_to_bytes c.split_at.ensures.back ∙ drop-uints_to_bytes (c.args.at * 4) (c.args.at * 32) numbers (omega arith))
