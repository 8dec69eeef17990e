-- A link that no end made was there before the first.
use Rattle.ffg_law.proofs.Histories.{made_at_end}
use Rattle.ffg_law.proofs.laws.links_are_made_at_ends.Goals as goal

pub returns : goal.returns
returns c increment weights history v made = made_at_end increment weights v history made
