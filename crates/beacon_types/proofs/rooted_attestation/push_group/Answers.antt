-- Each attestation has its two roots among those that were written.
use Rattle.std.proofs.Common.{◌∙◌, ◌*◌, ℕ, List, [], get_or, ap, arith}
use Rattle.beacon_types.proofs.AttestationLanes.{vote_at}
use Rattle.beacon_types.proofs.rooted_attestation.push_group.Goals as goal

pub with_roots-requires-clause-vote : goal.with_roots-requires-clause-vote
with_roots-requires-clause-vote c =
    let i = c.group.i in
    ap (λ (xs : List (List ℕ)). get_or xs (2 * i) []) c.write_attestation_halves.ensures
    ∙ vote_at c.args.attestations.now i c.index-attestations-i.result [] (omega arith) c.index-attestations-i.is
