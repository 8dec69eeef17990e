use Rattle.std.proofs.Common.{◌∙◌, sym, subst, List, ◌≡◌, length, vec_len}
use Rattle.beacon_types.specs.declared.attestation_data.AttestationData.{AttestationData}
use Rattle.forensics.specs.AllSpans.{AreSorted}
use Rattle.forensics.proofs.Takes.{sorted_all_still, all_spans_taken}
use Rattle.forensics.proofs.spans.all_spans.AllSpans.add.Goals as goal

pub take_all-requires-clause-sorted_all : goal.take_all-requires-clause-sorted_all
take_all-requires-clause-sorted_all g c = subst (λ (xs : List AttestationData). AreSorted xs c.self.inside.spans.items) (sym (c.deref.ensures.value ∙ c.in_ok-push.ensures.items)) (sorted_all_still _ _ _ c.self.invariant)

pub returns-clause-stands : goal.returns-clause-stands
returns-clause-stands g c =
    let full : vec_len c.self.inside.contents ≡ length c.self.inside.contents.items = c.self.inside.contents.ok.0 in
    all_spans_taken c.take_all.result _ c.self.inside.contents.items c.push.new.self.items c.deref.result.now c.self.inside.spans.items c.take_all.new.spans.items _ _ c.args.content c.args.attesters.now _ c.self.view_is c.in_ok-push.ensures.items c.deref.ensures.value (c.len-vote.ensures ∙ full) c.take_all.ensures.stand
