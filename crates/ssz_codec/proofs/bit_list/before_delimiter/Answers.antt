use Rattle.std.proofs.Common.{◌+◌, ◌-◌, ◌*◌, ◌%◌, ◌^◌, length, ap, ◌∙◌, arith, ◌++◌, ◌∷◌, []}
use Rattle.ssz_codec.specs.declared.bit_list.BitList.TheInside.{Inside}
use Rattle.ssz_codec.proofs.HeldBits.{whole_view, whole_held, part_view, part_held, without_top}
use Rattle.ssz_codec.proofs.bit_list.before_delimiter.Goals as goal

pub invariant_of-result : goal.invariant_of-result
invariant_of-result c =
    let b : Inside = record { bytes = c.in-Ok.bytes; len = 8 * length c.args.front.now + c.from.result } in
    whole_held b c.args.front.now c.args.place c.args.last (omega arith) (λ i. (c.type_inv.front i).fits) c.in-Ok.ensures.items c.if-place-eq0.true

pub returns-then-place-eq0 : goal.returns-then-place-eq0
returns-then-place-eq0 c =
    let b : Inside = record { bytes = c.in-Ok.bytes; len = 8 * length c.args.front.now + c.from.result } in
    whole_view b c.args.front.now c.args.place c.args.last (omega arith) (λ i. (c.type_inv.front i).fits) c.in-Ok.ensures.items c.if-place-eq0.true

pub invariant_of-result-in-Ok-push : goal.invariant_of-result-in-Ok-push
invariant_of-result-in-Ok-push c =
    let b : Inside = record { bytes = c.push.new.self; len = 8 * length c.args.front.now + c.from.result } in
    let rest = c.args.last - 1 * 2 ^ c.args.place % 256 in
    part_held b c.args.front.now c.args.place c.args.last (omega arith) (λ i. (c.type_inv.front i).fits) rest (c.in-Ok-push.ensures.items ∙ ap (λ t. t ++ rest ∷ []) c.in-Ok.ensures.items) (omega arith) c.requires.in_byte (without_top c.args.place c.args.last c.requires.in_byte c.requires.low) c.requires.high

pub returns-in-Ok-push : goal.returns-in-Ok-push
returns-in-Ok-push c =
    let b : Inside = record { bytes = c.push.new.self; len = 8 * length c.args.front.now + c.from.result } in
    let rest = c.args.last - 1 * 2 ^ c.args.place % 256 in
    part_view b c.args.front.now c.args.place c.args.last (omega arith) (λ i. (c.type_inv.front i).fits) rest (c.in-Ok-push.ensures.items ∙ ap (λ t. t ++ rest ∷ []) c.in-Ok.ensures.items) (omega arith) c.requires.in_byte (without_top c.args.place c.args.last c.requires.in_byte c.requires.low) c.requires.high
