use Rattle.std.proofs.Common.{◌≡◌, ◌+◌, take, drop, map, ◌-◌, ◌∷◌, arith, ap, ◌∙◌, sym, subst, Some}
use Rattle.ssz_codec.specs.declared.layout.Field.TheVariants.{Fixed, Variable}
use Rattle.ssz_codec.specs.Layout.{fixed_length, cut_from}
use Rattle.ssz_codec.proofs.Cutting.{cuts, cut_short, cut_start, heads_end, heads_here, heads_le, behind, cut_fixed, cut_offset, cut_falls, cut_gap, cut_whole, set_part}
use Rattle.ssz_codec.proofs.layout.cut.Goals as goal

pub returns-then-bytes-head : goal.returns-then-bytes-head
returns-then-bytes-head c = cut_short c.args.fields.now c.args.bytes.now (omega arith)

pub loop-i-init : goal.loop-i-init
loop-i-init c = record {
  within = omega arith;
  place = omega (arith, heads_end c.args.fields.now);
  end = omega arith;
  so_far = cut_start (λ part. part.now) c.args.fields.now c.args.parts.now c.args.bytes.now c.fixed_len-head.result (omega arith);
}

pub overflow_sub-at : goal.overflow_sub-at
overflow_sub-at c =
    let one = heads_here c.args.fields.now c.loop-i.i (c.loop-i.i - 1) (Fixed c.in-Fixed.n) (omega arith) (omega arith) c.in-Fixed.is in
    let two = heads_le c.args.fields.now (c.loop-i.i - 1) in
    omega arith

pub slice_bounds-parts-end : goal.slice_bounds-parts-end
slice_bounds-parts-end c =
    let one = heads_here c.args.fields.now c.loop-i.i (c.loop-i.i - 1) (Fixed c.in-Fixed.n) (omega arith) (omega arith) c.in-Fixed.is in
    let two = heads_le c.args.fields.now (c.loop-i.i - 1) in
    omega arith

pub loop-i-preserved-in-Fixed : goal.loop-i-preserved-in-Fixed
loop-i-preserved-in-Fixed c =
    let j = c.loop-i.i - 1 in
    let one = heads_here c.args.fields.now c.loop-i.i j (Fixed c.in-Fixed.n) (omega arith) (omega arith) c.in-Fixed.is in
    let two = heads_le c.args.fields.now j in
    let h = behind (λ part. part.now) c.args.fields.now c.loop-i.parts c.loop-i.i j c.loop-i.at c.loop-i.end c.args.bytes.now (omega arith) c.loop-i.invariant.so_far in
    let k = cut_fixed c.args.fields.now j c.in-Fixed.n (c.loop-i.at - c.in-Fixed.n) c.loop-i.at c.loop-i.end c.args.bytes.now _ (omega arith) c.in-Fixed.is (omega arith) h in
    let at = c.loop-i.at - c.in-Fixed.n in
    let width : c.in-Fixed.n ≡ at + c.in-Fixed.n - at = omega arith in
    record {
      within = omega arith;
      place = omega arith;
      end = omega arith;
      so_far = k ∙ ap (λ n. Some (cuts (take n (drop at c.args.bytes.now) ∷ map (λ part. part.now) (drop (j + 1) c.loop-i.parts)) c.loop-i.end)) width ∙ ap (λ ps. Some (cuts ps c.loop-i.end)) (sym (set_part (λ part. part.now) c.loop-i.parts j _ (omega arith)));
    }

pub overflow_sub-at-in-Variable : goal.overflow_sub-at-in-Variable
overflow_sub-at-in-Variable c =
    let one = heads_here c.args.fields.now c.loop-i.i (c.loop-i.i - 1) Variable (omega arith) (omega arith) c.in-Variable.is in
    let two = heads_le c.args.fields.now (c.loop-i.i - 1) in
    omega arith

pub offset_at-start-requires : goal.offset_at-start-requires
offset_at-start-requires c =
    let one = heads_here c.args.fields.now c.loop-i.i (c.loop-i.i - 1) Variable (omega arith) (omega arith) c.in-Variable.is in
    let two = heads_le c.args.fields.now (c.loop-i.i - 1) in
    omega arith

pub returns-then-start-end : goal.returns-then-start-end
returns-then-start-end c =
    let j = c.loop-i.i - 1 in
    let one = heads_here c.args.fields.now c.loop-i.i j Variable (omega arith) (omega arith) c.in-Variable.is in
    let two = heads_le c.args.fields.now j in
    let h = behind (λ part. part.now) c.args.fields.now c.loop-i.parts c.loop-i.i j c.loop-i.at c.loop-i.end c.args.bytes.now (omega arith) c.loop-i.invariant.so_far in
    let e : c.loop-i.i ≡ j + 1 = omega arith in
    let place : c.loop-i.at + fixed_length (drop (j + 1) c.args.fields.now) ≡ fixed_length c.args.fields.now = subst (λ n. c.loop-i.at + fixed_length (drop n c.args.fields.now) ≡ fixed_length c.args.fields.now) e c.loop-i.invariant.place in
    cut_falls c.args.fields.now j (c.loop-i.at - 4) c.loop-i.at c.offset_at-start.result c.loop-i.end c.args.bytes.now _ (omega arith) c.in-Variable.is (omega arith) c.offset_at-start.ensures.value (omega arith) place h

pub loop-i-preserved : goal.loop-i-preserved
loop-i-preserved c =
    let j = c.loop-i.i - 1 in
    let one = heads_here c.args.fields.now c.loop-i.i j Variable (omega arith) (omega arith) c.in-Variable.is in
    let two = heads_le c.args.fields.now j in
    let h = behind (λ part. part.now) c.args.fields.now c.loop-i.parts c.loop-i.i j c.loop-i.at c.loop-i.end c.args.bytes.now (omega arith) c.loop-i.invariant.so_far in
    let k = cut_offset c.args.fields.now j (c.loop-i.at - 4) c.loop-i.at c.offset_at-start.result c.loop-i.end c.args.bytes.now _ (omega arith) c.in-Variable.is (omega arith) c.offset_at-start.ensures.value (omega arith) h in
    record {
      within = omega arith;
      place = omega arith;
      end = omega arith;
      so_far = k ∙ ap (λ ps. Some (cuts ps c.offset_at-start.result)) (sym (set_part (λ part. part.now) c.loop-i.parts j _ (omega arith)));
    }

pub returns-then-end-head : goal.returns-then-end-head
returns-then-end-head c =
    let none : c.loop-i.i ≡ 0 = omega arith in
    let place : c.loop-i.at + fixed_length c.args.fields.now ≡ fixed_length c.args.fields.now = subst (λ n. c.loop-i.at + fixed_length (drop n c.args.fields.now) ≡ fixed_length c.args.fields.now) none c.loop-i.invariant.place in
    let h = subst (λ n. cut_from (drop n c.args.fields.now) (drop c.loop-i.at c.args.bytes.now) c.args.bytes.now ≡ Some (cuts (map (λ part. part.now) (drop n c.loop-i.parts)) c.loop-i.end)) none c.loop-i.invariant.so_far in
    cut_gap c.args.fields.now c.args.bytes.now _ c.loop-i.end c.loop-i.at (omega arith) (omega arith) (λ e. omega arith) h

pub returns : goal.returns
returns c =
    let none : c.loop-i.i ≡ 0 = omega arith in
    let place : c.loop-i.at + fixed_length c.args.fields.now ≡ fixed_length c.args.fields.now = subst (λ n. c.loop-i.at + fixed_length (drop n c.args.fields.now) ≡ fixed_length c.args.fields.now) none c.loop-i.invariant.place in
    let h = subst (λ n. cut_from (drop n c.args.fields.now) (drop c.loop-i.at c.args.bytes.now) c.args.bytes.now ≡ Some (cuts (map (λ part. part.now) (drop n c.loop-i.parts)) c.loop-i.end)) none c.loop-i.invariant.so_far in
    cut_whole c.args.fields.now c.args.bytes.now _ c.loop-i.end c.loop-i.at (omega arith) (omega arith) (omega arith) h
