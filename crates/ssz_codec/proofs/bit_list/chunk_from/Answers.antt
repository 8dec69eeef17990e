use Rattle.std.proofs.Common.{◌≡◌, ◌∙◌, ℕ, ◌-◌, List, length, take, drop, min, ap, arith}
use Rattle.std.proofs.lemmas.List.{take_all, take_min, drop_min, length-drop}
use Rattle.hash_tree.specs.Merkle.{padded_chunk}
use Rattle.ssz_codec.proofs.bit_list.chunk_from.Goals as goal

pub returns : goal.returns
returns c =
    let bytes = c.args.bytes.now in
    let from = drop c.min.result bytes in
    let rest = take (length bytes - c.min.result) from in
    let same : rest ≡ drop c.args.begin bytes =
    take_all (length bytes - c.min.result) from (omega (arith, length-drop c.min.result bytes))
    ∙ (ap (λ (n : ℕ). drop n bytes) c.min.ensures ∙ drop_min c.args.begin bytes) in
    let few : c.min-2.result ≡ min 32 (length rest) = c.min-2.ensures ∙ omega arith in
    c.chunk_root.ensures
    ∙ (ap (λ (n : ℕ). padded_chunk (take n rest)) few
    ∙ (ap padded_chunk (take_min 32 rest)
    ∙ ap (λ (xs : List ℕ). padded_chunk (take 32 xs)) same))
