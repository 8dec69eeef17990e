use Rattle.std.proofs.Common.{◌≡◌, ◌+◌, ◌≤◌, length}
use Rattle.std.specs.Str.Lines.{lines}
use Rattle.bc_preset.specs.inside.OnePass.{after_lines, nothing_set}
use Rattle.bc_preset.proofs.settings.settings_of.Given as goal

-- what the rest gives is what all lines give
abbrev pub invariant-loop-rest : goal.invariant-loop-rest
invariant-loop-rest l =
    (after_lines l.settings l.number (lines l.rest) ≡ after_lines nothing_set 1 (lines l.bytes)) × (l.number + length l.rest ≤ 65537)

abbrev pub decreases-loop-rest : goal.decreases-loop-rest
decreases-loop-rest l = length l.rest
