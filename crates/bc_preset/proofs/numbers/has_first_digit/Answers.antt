use Rattle.bc_preset.proofs.Digits.{first_of_more}
use Rattle.bc_preset.proofs.numbers.has_first_digit.Goals as goal

pub returns-in-len1-up : goal.returns-in-len1-up
returns-in-len1-up c = first_of_more c.args.text.now c.in-len1-up.len_at_least
