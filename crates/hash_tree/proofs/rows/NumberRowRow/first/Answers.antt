use Rattle.std.proofs.Common.{refl, take, arith}
use Rattle.hash_tree.specs.Merkle.{uints_to_bytes}
use Rattle.hash_tree.proofs.Chunks.{number_chunk_facts, first_numbers, first-byte_chunks}
use Rattle.hash_tree.proofs.rows.NumberRowRow.first.Goals as goal

pub returns : goal.returns
returns c =
    let numbers = c.args.self.now.numbers.now in
    let e = first_numbers numbers (omega (arith, number_chunk_facts)) in
    let f = first-byte_chunks (uints_to_bytes numbers) (take 32 (uints_to_bytes numbers)) c.four_numbers.result (omega (arith, number_chunk_facts)) refl in
    cc
