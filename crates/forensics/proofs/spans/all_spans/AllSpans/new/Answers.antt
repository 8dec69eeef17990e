use Rattle.std.proofs.Common.{sym, subst, List, [], vec_capacity}
use Rattle.beacon_types.specs.declared.attestation_data.AttestationData.{AttestationData}
use Rattle.forensics.specs.AllSpans.{AreSpansOf}
use Rattle.forensics.proofs.Named.{fresh_all_spans}
use Rattle.forensics.proofs.spans.all_spans.AllSpans.new.Goals as goal

pub returns-clause-none : goal.returns-clause-none
returns-clause-none c = subst (λ (xs : List AttestationData). AreSpansOf (record { contents = xs; spans = c.loop.spans.items; room = vec_capacity c.new-2.result }) []) (sym c.new-2.ensures.items) (fresh_all_spans c.loop.spans.items _ c.loop.invariant.fresh)
