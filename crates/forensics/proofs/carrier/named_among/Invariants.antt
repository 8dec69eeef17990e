use Rattle.std.proofs.Common.{◌≡◌, drop}
use Rattle.forensics.specs.inside.Carriers.{named_among}
use Rattle.forensics.proofs.carrier.named_among.Given as goal

abbrev pub invariant-loop-carrier : goal.invariant-loop-carrier
invariant-loop-carrier l = named_among l.validators l.vote (drop l.carrier-index l.carriers) ≡ named_among l.validators l.vote l.carriers
