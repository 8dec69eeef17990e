-- A line could not be written.
use Rattle.std.proofs.Common.{◌≡◌, ◌<◌, ℕ, suc, List, [], ◌++◌, length, get_or, drop, ap}
use Rattle.std.specs.Prelude.{flat_map}
use Rattle.std.proofs.Math.Seq.{drop-cons}
use Rattle.std.proofs.lemmas.Result.{err_from_is_err_and}
use Rattle.beacon_types.specs.declared.attestation_data.AttestationData.{AttestationData}
use Rattle.spec_forensics.specs.declared.offence.Offence.{Offence}
use Rattle.spec_forensics.specs.declared.offence.OffenceKind.TheVariants.{Double}
use Rattle.spec_forensics.specs.declared.vote.Vote.{Vote}
use Rattle.spec_replay.specs.OffenceLines.{offence_line}
use Rattle.one_chain.proofs.Texts.{written_partly}
use Rattle.beacon_node.proofs.forensic.write_offences.Goals as goal

no_content : AttestationData
no_content = record { slot = 0; index = 0; beacon_block_root = []; source = record { epoch = 0; root = [] }; target = record { epoch = 0; root = [] } }

no_vote : Vote
no_vote = record { which = 0; event = 0; position = 0; block_root = []; validator = 0; content = no_content }

no_offence : Offence
no_offence = record { validator = 0; kind = Double; first = no_vote; second = no_vote }

one_more : (offences : List Offence) (i : ℕ) → i < length offences → flat_map offence_line (drop i offences) ≡ offence_line (get_or offences i no_offence) ++ flat_map offence_line (drop (suc i) offences)
one_more offences i less = ap (flat_map offence_line) (drop-cons offences i no_offence less)

pub returns-in_err-write_offence : goal.returns-in_err-write_offence
unfolding no_offence no_vote no_content
returns-in_err-write_offence g c =
    let p = err_from_is_err_and c.from_residual.result c.from_residual.ensures.1 in
    rw (p.1, p.2) (written_partly (flat_map offence_line c.args.offences.now) (offence_line (get_or c.args.offences.now c.loop-offence.offence-index no_offence)) (flat_map offence_line (drop (suc c.loop-offence.offence-index) c.args.offences.now)) c.in_err-write_offence.field-0.0
    (rw (one_more c.args.offences.now c.loop-offence.offence-index c.loop-offence-test.true) at c.loop-offence.invariant) c.in_err-write_offence.ensures)
