-- The list that is answered is the one after all rounds.
use Rattle.std.proofs.Common.{◌∙◌}
use Rattle.committees.proofs.list.shuffle_all.Goals as goal

pub returns-clause-shuffled : goal.returns-clause-shuffled
returns-clause-shuffled c = c.into_list.ensures ∙ (rw (c.new-seed.ensures, c.new-items.ensures) at c.shuffle_rounds.ensures)
