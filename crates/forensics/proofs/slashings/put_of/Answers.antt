use Rattle.std.proofs.Common.{◌∙◌, sym}
use Rattle.forensics.proofs.Listing.{put_for, none_for}
use Rattle.forensics.proofs.slashings.put_of.Goals as goal

pub returns-in-Some : goal.returns-in-Some
returns-in-Some c = put_for _ c.put.result _ _ c.args.offence.now c.in-Some.operation (sym c.in-Some.is ∙ c.in_ok-found.ensures) c.put.ensures

pub returns-in-None : goal.returns-in-None
returns-in-None c = none_for _ _ c.args.offence.now (sym c.in-None.is ∙ c.in_ok-found.ensures)
