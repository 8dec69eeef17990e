use Rattle.std.proofs.Common.{◌==◌, ℕ, sym, ap}
use Rattle.std.specs.List.{list_any}
use Rattle.forensics.proofs.Published.{nobody_attests}
use Rattle.forensics.proofs.kept_attestation.attests.Goals as goal

pub returns-in-None : goal.returns-in-None
returns-in-None c = ap (list_any (λ (member : ℕ). member == c.args.validator)) (sym (nobody_attests c.args.committees.now c.args.attestation.now c.in-None.ensures.exact))
