use Rattle.std.proofs.Common.{◌≡◌, ℕ, ◌+◌, ◌-◌, ◌%◌, List, [], ◌∷◌, ◌++◌, length, take, get_or, set, refl, sym, ap, ◌∙◌, arith}
use Rattle.std.proofs.lemmas.List.{take_more, take_more_set, take_all, length-set}
use Rattle.std.specs.Vec.{with_item}
use Rattle.ssz_codec.specs.declared.bit_list.BitList.TheInside.{Inside}
use Rattle.ssz_codec.specs.inside.HeldBits.{IsHeld}
use Rattle.ssz_codec.specs.laws.Layout.{IsBytes-take}
use Rattle.ssz_codec.proofs.HeldBits.{first_pushed, first_held, more_pushed, more_held, part_writing, held_len, held_fits}
use Rattle.ssz_codec.proofs.bit_list.BitList.push.Goals as goal

-- a list and its last item
ends_in : (xs : List ℕ) (n x : ℕ) → length xs ≡ n + 1 → x ≡ get_or xs n x → xs ≡ take n xs ++ x ∷ []
ends_in xs n x len is = sym (take_all (n + 1) xs (omega (arith, len))) ∙ take_more xs n x (omega (arith, len)) ∙ ap (λ y. take n xs ++ y ∷ []) (sym is)

set_last : (xs : List ℕ) (n x : ℕ) → length xs ≡ n + 1 → set xs n x ≡ take n xs ++ x ∷ []
set_last xs n x len = sym (take_all (n + 1) (set xs n x) (omega (arith, len, length-set xs n x))) ∙ take_more_set xs n x (omega (arith, len))

-- some bits are in use, so there is a byte
some_bytes : (b : Inside) (n : ℕ) → IsHeld b → (b.len % 8 ≡ 0 → ⊥) → n ≡ length b.bytes.items → length b.bytes.items ≡ (n - 1) + 1
some_bytes b n h used is = omega (arith, held_len b h, used, is)

pub invariant_of-self : goal.invariant_of-self
invariant_of-self c =
    first_held c.self.inside (record { bytes = c.push.new.self; len = c.self.inside.len + 1 }) c.args.bit c.self.invariant c.if-used-eq0.true refl (c.in-Ok.ensures.items ∙ ap (λ n. c.self.inside.bytes.items ++ n ∷ []) (c.with_bit.ensures ∙ (omega arith)))

pub returns-in-Ok-clause-ok : goal.returns-in-Ok-clause-ok
returns-in-Ok-clause-ok c =
    first_pushed c.self.inside (record { bytes = c.push.new.self; len = c.self.inside.len + 1 }) c.args.bit c.self.invariant c.if-used-eq0.true refl (c.in-Ok.ensures.items ∙ ap (λ n. c.self.inside.bytes.items ++ n ∷ []) (c.with_bit.ensures ∙ (omega arith)))
    ∙ ap (λ bits. bits ++ c.args.bit ∷ []) c.self.view_is

pub with_bit-requires-2-clause-low : goal.with_bit-requires-2-clause-low
with_bit-requires-2-clause-low c =
    let b = c.self.inside in
    let n = c.len-last.result - 1 in
    (part_writing b (take n b.bytes.items) c.index-byte.result.now c.self.invariant (ends_in b.bytes.items n c.index-byte.result.now (some_bytes b c.len-last.result c.self.invariant c.if-used-eq0.false (omega (arith, c.len-last.ensures))) c.index-byte.ensures) (omega arith)).0

pub invariant_of-self-2 : goal.invariant_of-self-2
invariant_of-self-2 c =
    let b = c.self.inside in
    let n = c.len-last.result - 1 in
    let len = some_bytes b c.len-last.result c.self.invariant c.if-used-eq0.false (omega (arith, c.len-last.ensures)) in
    more_held b _ c.args.bit (take n b.bytes.items) c.index-byte.result.now c.self.invariant (IsBytes-take n b.bytes.items (held_fits b c.self.invariant)) (omega arith) (ends_in b.bytes.items n c.index-byte.result.now len c.index-byte.ensures) refl
    (set_last b.bytes.items n c.with_bit-2.result len ∙ ap (λ m. take n b.bytes.items ++ m ∷ []) c.with_bit-2.ensures)

pub returns-clause-ok : goal.returns-clause-ok
returns-clause-ok c =
    let b = c.self.inside in
    let n = c.len-last.result - 1 in
    let len = some_bytes b c.len-last.result c.self.invariant c.if-used-eq0.false (omega (arith, c.len-last.ensures)) in
    more_pushed b (record { bytes = with_item b.bytes n c.with_bit-2.result; len = b.len + 1 }) c.args.bit (take n b.bytes.items) c.index-byte.result.now c.self.invariant (IsBytes-take n b.bytes.items (held_fits b c.self.invariant)) (omega arith) (ends_in b.bytes.items n c.index-byte.result.now len c.index-byte.ensures) refl
    (set_last b.bytes.items n c.with_bit-2.result len ∙ ap (λ m. take n b.bytes.items ++ m ∷ []) c.with_bit-2.ensures)
    ∙ ap (λ bits. bits ++ c.args.bit ∷ []) c.self.view_is
