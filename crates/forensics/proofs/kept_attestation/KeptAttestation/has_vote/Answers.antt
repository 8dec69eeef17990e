use Rattle.std.proofs.Common.{◌∙◌, ap}
use Rattle.committees.specs.Committees.{Committees}
use Rattle.forensics.specs.inside.Carriers.{attested_among, has_vote}
use Rattle.forensics.proofs.kept_attestation.KeptAttestation.has_vote.Goals as goal

pub returns : goal.returns
returns c = c.has_vote.ensures ∙ ap (λ (k : Committees). has_vote c.args.validators c.args.vote.now (attested_among k c.self.inside.attestation)) c.as_ref-committees.ensures ∙ ap (has_vote c.args.validators c.args.vote.now) c.self.view_is
