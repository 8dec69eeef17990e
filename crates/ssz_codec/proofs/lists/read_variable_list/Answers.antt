use Rattle.std.proofs.Common.{◌/◌, map, Some, subst, ap, ◌∙◌, sym, arith}
use Rattle.std.proofs.lemmas.Bool.{eqb-true, eqb-false}
use Rattle.ssz_codec.specs.Lists.{parse_parts}
use Rattle.ssz_codec.specs.Reads.{ReadsAs}
use Rattle.ssz_codec.proofs.ListOfParts.{list_none, list_short, list_past, list_over, list_uncut, list_cut}
use Rattle.ssz_codec.proofs.lists.read_variable_list.Goals as goal

pub returns-then-is_empty : goal.returns-then-is_empty
returns-then-is_empty g c =
    list_none g.T.Ssz.codec.deserialize c.args.limit c.args.bytes.now (eqb-true _ _ (sym c.is_empty.ensures ∙ c.if-is_empty.true)) ∙ ap (λ xs. Some xs) (sym c.new.ensures)

pub returns-then-bytes-lt4 : goal.returns-then-bytes-lt4
returns-then-bytes-lt4 g c =
    list_short g.T.Ssz.codec.deserialize c.args.limit c.args.bytes.now (eqb-false _ _ (sym c.is_empty.ensures ∙ c.if-is_empty.false)) (omega arith)

pub returns-then-count-limit : goal.returns-then-count-limit
returns-then-count-limit g c =
    list_past g.T.Ssz.codec.deserialize c.args.limit _ c.args.bytes.now (eqb-false _ _ (sym c.is_empty.ensures ∙ c.if-is_empty.false)) (ap (λ n. n / 4) c.offset_at-count.ensures.value) c.if-count-limit.true

pub returns-then-count-bytes : goal.returns-then-count-bytes
returns-then-count-bytes g c =
    let over = c.if-count-bytes.true in
    list_over g.T.Ssz.codec.deserialize c.args.limit (c.offset_at-count.result / 4) c.args.bytes.now (eqb-false _ _ (sym c.is_empty.ensures ∙ c.if-is_empty.false)) (ap (λ n. n / 4) c.offset_at-count.ensures.value) (omega arith)

pub returns-in-Err : goal.returns-in-Err
returns-in-Err g c =
    list_uncut c.in-Err.fault g.T.Ssz.codec.deserialize c.args.limit (c.offset_at-count.result / 4) c.args.bytes.now (eqb-false _ _ (sym c.is_empty.ensures ∙ c.if-is_empty.false)) (ap (λ n. n / 4) c.offset_at-count.ensures.value) c.if-count-limit.false c.in-Err.ensures

pub returns-in-Ok : goal.returns-in-Ok
returns-in-Ok g c =
    let parse = g.T.Ssz.codec.deserialize in
    let e = list_cut parse c.args.limit (c.offset_at-count.result / 4) c.args.bytes.now _ (eqb-false _ _ (sym c.is_empty.ensures ∙ c.if-is_empty.false)) (ap (λ n. n / 4) c.offset_at-count.ensures.value) c.if-count-limit.false c.in-Ok.ensures in
    subst (λ o. ReadsAs c.read_parts.result o) (ap (λ ps. parse_parts parse (map (λ part. part.now) ps)) c.deref.ensures.value ∙ sym e) c.read_parts.ensures
