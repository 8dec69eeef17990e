-- The bytes of a word stand in the first root or in the second.
use Rattle.std.proofs.Common.{◌≡◌, ℕ, ◌+◌, ◌-◌, ◌*◌, ◌/◌, ◌%◌, ◌<◌, List, [], length, get_or, slice_index, slice_index_or, sym, ◌∙◌, arith, inl, inr, length-append, add-zero}
use Rattle.std.proofs.lemmas.Bool.{cases_lt}
use Rattle.std.proofs.lemmas.List.{get_or_append_left, get_or-append_right}
use Rattle.hash_tree.specs.Pairs.{message}
use Rattle.hash_tree.proofs.vectors.word.Goals as goal

-- a byte of both roots stands in one of them
byte_at : (pair : List (List ℕ)) (place d : ℕ) → length (slice_index_or pair 0 []) ≡ 32 → place < 16 → d < 4 → slice_index (message pair) (4 * place + d) ≡ get_or (get_or pair (place / 8) []) (place % 8 * 4 + d) 0
byte_at pair place d long within small = elim (cases_lt place 8) [
  | inl first ↦
      let root : place / 8 ≡ 0 = omega arith in
      let at : place % 8 * 4 + d ≡ 4 * place + d = omega arith in
      rw (root, at) (get_or_append_left (slice_index_or pair 0 []) (slice_index_or pair 1 []) 0 (4 * place + d) (omega arith))
  | inr second ↦
      let root : place / 8 ≡ 1 = omega arith in
      let at : place % 8 * 4 + d ≡ 4 * place + d - 32 = omega arith in
      rw (root, at) (get_or-append_right (slice_index_or pair 0 []) (slice_index_or pair 1 []) 32 (4 * place + d) 0 long (omega arith))
]

same_bytes : (a b c d p q r s : ℕ) → a ≡ p → b ≡ q → c ≡ r → d ≡ s → a * 16777216 + b * 65536 + c * 256 + d ≡ p * 16777216 + q * 65536 + r * 256 + s
same_bytes a b c d p q r s e f g h = cc

pub returns-clause-word : goal.returns-clause-word
returns-clause-word c =
    let pair = c.args.pair.now in
    let at = λ (d : ℕ) (small : d < 4). byte_at pair c.args.place d c.is_long.ensures c.requires small in
    c.from_be_bytes.ensures ∙ sym (same_bytes _ _ _ _ _ _ _ _ (simp add-zero at (at 0 (omega arith))) (at 1 (omega arith)) (at 2 (omega arith)) (at 3 (omega arith)))

pub returns-clause-long : goal.returns-clause-long
returns-clause-long c = omega (arith, length-append (slice_index_or c.args.pair.now 0 []) (slice_index_or c.args.pair.now 1 []), c.is_long.ensures, c.is_long-2.ensures)
