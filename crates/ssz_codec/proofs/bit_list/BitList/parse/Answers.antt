use Rattle.std.proofs.Common.{Some, List, Bool, ap, ◌∙◌, sym, arith}
use Rattle.ssz_codec.specs.laws.BitLists.{reads_no_bytes, reads_no_delimiter, reads_too_long, reads_bits}
use Rattle.ssz_codec.proofs.bit_list.BitList.parse.Goals as goal

pub returns-in_default : goal.returns-in_default
returns-in_default c = reads_no_bytes c.args.limit c.args.bytes.now c.in_default.ensures.cases

pub returns-then-last-eq0 : goal.returns-then-last-eq0
returns-then-last-eq0 c =
    reads_no_delimiter c.args.limit c.in-Some.last.now c.args.bytes.now c.in-Some.front.now c.in-Some.ensures.cases.0 c.if-last-eq0.true

pub returns-then-limit-whole : goal.returns-then-limit-whole
returns-then-limit-whole c =
    reads_too_long c.args.limit c.in-Some.last.now c.ilog2-place.result c.args.bytes.now c.in-Some.front.now c.in-Some.ensures.cases.0 c.ilog2-place.ensures.bound c.ilog2-place.ensures.power_le c.ilog2-place.ensures.next_power_gt (omega arith)

pub returns-then-limit-whole-2 : goal.returns-then-limit-whole-2
returns-then-limit-whole-2 c =
    reads_too_long c.args.limit c.in-Some.last.now c.ilog2-place.result c.args.bytes.now c.in-Some.front.now c.in-Some.ensures.cases.0 c.ilog2-place.ensures.bound c.ilog2-place.ensures.power_le c.ilog2-place.ensures.next_power_gt (omega arith)

pub returns-in-Ok : goal.returns-in-Ok
returns-in-Ok c =
    reads_bits c.args.limit c.in-Some.last.now c.ilog2-place.result c.args.bytes.now c.in-Some.front.now c.in-Some.ensures.cases.0 c.ilog2-place.ensures.bound c.ilog2-place.ensures.power_le c.ilog2-place.ensures.next_power_gt (omega arith) ∙ ap (λ (b : List Bool). Some b) (sym c.in-Ok.ensures)
