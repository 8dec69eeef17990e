-- One attestation more, and they are few.
use Rattle.std.proofs.Common.{List, [], ◌∷◌, ◌++◌, ◌∙◌, length, sym, ap, ap₂, arith}
use Rattle.std.proofs.lemmas.List.FromFn.{map-range_with_len_more, length-map-range_with_len}
use Rattle.beacon_types.specs.declared.attestation.Attestation.{Attestation}
use Rattle.spec_drill.specs.MakeVotes.{vote_of}
use Rattle.chain_maker.proofs.attestations.votes_of.Goals as goal

pub loop-index-preserved : goal.loop-index-preserved
loop-index-preserved c =
    c.in_ok-push.ensures.ok ∙ (ap₂ (λ (xs : List Attestation) (x : Attestation). xs ++ x ∷ []) c.loop-index.invariant c.in_ok-vote.ensures
    ∙ sym (map-range_with_len_more (vote_of c.args.state.now c.args.root.now c.args.slot) 0 c.loop-index.index c.loop-index.index (omega arith)))

pub from_items-requires : goal.from_items-requires
from_items-requires c =
    let many = length-map-range_with_len (vote_of c.args.state.now c.args.root.now c.args.slot) 0 c.loop-index.index in
    let same = ap length c.loop-index.invariant in
    omega (arith, many, same, c.committee_count_per_slot-per_slot.ensures.most, c.loop-index.auto.index-end)
