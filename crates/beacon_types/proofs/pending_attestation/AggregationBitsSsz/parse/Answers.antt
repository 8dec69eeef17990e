use Rattle.beacon_types.proofs.pending_attestation.AggregationBitsSsz.parse.Goals as goal

-- what was read is within the limit
pub invariant_of-result : goal.invariant_of-result
invariant_of-result c = c.in-Ok.ensures.reads.0
