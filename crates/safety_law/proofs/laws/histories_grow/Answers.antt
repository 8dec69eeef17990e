-- A block more of one of two histories.
use Rattle.safety_law.proofs.Growing.{first_grows, second_grows}
use Rattle.safety_law.proofs.laws.histories_grow.Goals as goal

pub returns-clause-first : goal.returns-clause-first
returns-clause-first c config genesis first second b are step clear = first_grows config genesis first second b are step clear

pub returns-clause-second : goal.returns-clause-second
returns-clause-second c config genesis first second b are step clear = second_grows config genesis first second b are step clear
