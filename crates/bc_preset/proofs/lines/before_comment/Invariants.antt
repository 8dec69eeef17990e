use Rattle.std.proofs.Common.{◌≡◌, ◌++◌, take, drop}
use Rattle.bc_preset.specs.Lines.{before_comment}
use Rattle.bc_preset.proofs.lines.before_comment.Given as goal

-- no comment begins before i
abbrev pub invariant-loop-i : goal.invariant-loop-i
invariant-loop-i l = before_comment l.text ≡ take l.i l.text ++ before_comment (drop l.i l.text)
