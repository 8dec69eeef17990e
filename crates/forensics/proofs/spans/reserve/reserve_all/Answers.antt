use Rattle.std.proofs.Common.{◌∙◌, ap, [], sym, arith, map}
use Rattle.std.proofs.lemmas.List.{get_or-map, length-map}
use Rattle.forensics.proofs.Reserved.{same_on, list_reserved}
use Rattle.forensics.proofs.spans.reserve.reserve_all.Goals as goal

pub loop-attesters-preserved : goal.loop-attesters-preserved
loop-attesters-preserved c = record {
  same = same_on _ _ _ c.loop-attesters.invariant.same c.reserve_list.ensures.same;
  room = list_reserved _ _ _ c.loop-attesters.attesters-index (map (λ x. x.items) c.args.lists.now) _ (omega (arith, length-map c.args.lists.now (λ x. x.items)))
      (c.deref.ensures.value ∙ ap (λ x. x.items) c.attesters-item.is ∙ sym (get_or-map (λ x. x.items) c.args.lists.now c.loop-attesters.attesters-index c.attesters-item.result [] (omega arith)))
      c.reserve_list.ensures.same c.loop-attesters.invariant.room c.in_ok-reserve_list.ensures.room;
}

pub returns-in_err-reserve_list-clause-same : goal.returns-in_err-reserve_list-clause-same
returns-in_err-reserve_list-clause-same c = same_on _ _ _ c.loop-attesters.invariant.same c.reserve_list.ensures.same
