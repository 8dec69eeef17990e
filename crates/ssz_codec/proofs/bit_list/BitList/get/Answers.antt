use Rattle.std.proofs.Common.{◌≡◌, ◌+◌, ◌/◌, length, ap, ◌∙◌, sym, arith, slice_get}
use Rattle.ssz_codec.specs.laws.Basic.{bits_bytes_len}
use Rattle.ssz_codec.specs.inside.HeldBits.{held_bits, IsHeld}
use Rattle.ssz_codec.specs.declared.bit_list.BitList.TheInside.{Inside}
use Rattle.ssz_codec.proofs.HeldBits.{held_bit}
use Rattle.ssz_codec.proofs.bit_list.BitList.get.Goals as goal

held_len : (b : Inside) → IsHeld b → length b.bytes.items ≡ (b.len + 7) / 8
held_len b h = sym (ap length h.packed) ∙ bits_bytes_len (held_bits b) ∙ ap (λ n. (n + 7) / 8) h.count

pub index-byte-requires : goal.index-byte-requires
index-byte-requires c = omega (arith, held_len c.self.inside c.self.invariant)

pub returns : goal.returns
returns c =
    let b = c.self.inside in
    held_bit b.bytes.items b.len c.args.index c.index-byte.result.now c.if-self-index.false c.self.invariant.count (omega (arith, held_len b c.self.invariant)) c.index-byte.ensures
    ∙ ap (λ bits. slice_get bits c.args.index) c.self.view_is
