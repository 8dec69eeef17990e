use Rattle.std.proofs.Common.{sym, ◌∙◌, refl}
use Rattle.ssz_codec.specs.declared.bit_list.BitList.TheInside.{Inside}
use Rattle.ssz_codec.specs.laws.Basic.{bits_bytes_nil}
use Rattle.ssz_codec.proofs.HeldBits.{is_held}
use Rattle.std.specs.Prelude.{[]}
use Rattle.ssz_codec.proofs.bit_list.BitList.new.Goals as goal

pub invariant_of-result : goal.invariant_of-result
invariant_of-result c =
    let b : Inside = record { bytes = c.new.result; len = 0 } in
    is_held b [] refl (bits_bytes_nil ∙ sym c.new.ensures.items) refl
