use Rattle.std.proofs.Common.{◌∙◌, sym}
use Rattle.forensics.proofs.Published.{nobody_attests}
use Rattle.forensics.proofs.kept_attestation.attesters_among.Goals as goal

pub returns-in-None : goal.returns-in-None
returns-in-None c = c.new.ensures.items ∙ sym (nobody_attests c.args.committees.now c.args.attestation.now c.in-None.ensures.exact)
