use Rattle.std.proofs.Common.{◌≡◌, length, sym, ◌∙◌, refl, take, arith}
use Rattle.std.proofs.lemmas.List.{take_all, length-take-le}
use Rattle.hash_tree.proofs.Chunks.{chunk_count, first-byte_chunks}
use Rattle.hash_tree.proofs.rows.ByteRowRow.first.Goals as goal

pub slice_bounds-chunk_root-end : goal.slice_bounds-chunk_root-end
slice_bounds-chunk_root-end c = sym (length-take-le 32 c.args.self.now.bytes.now (omega arith))

pub chunk_root-requires-2 : goal.chunk_root-requires-2
chunk_root-requires-2 c =
    let n : length (take 32 c.args.self.now.bytes.now) ≡ 32 = length-take-le 32 c.args.self.now.bytes.now (omega arith) in
    omega arith

pub returns-then-self-lt32 : goal.returns-then-self-lt32
returns-then-self-lt32 c = c.chunk_root.ensures ∙ first-byte_chunks c.args.self.now.bytes.now _ c.chunk_root.result (omega (arith, chunk_count)) (sym (take_all 32 c.args.self.now.bytes.now (omega arith)))

pub returns : goal.returns
returns c = c.chunk_root-2.ensures ∙ first-byte_chunks c.args.self.now.bytes.now _ c.chunk_root-2.result (omega (arith, chunk_count)) refl
