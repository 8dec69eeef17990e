-- The members in front were appended.
use Rattle.std.proofs.Common.{◌≡◌, ◌++◌, codes, flat_map, take}
use Rattle.std.specs.Fmt.{decimal}
use Rattle.one_chain.proofs.duty_lines.push_others.Given as goal

abbrev pub invariant-loop-member : goal.invariant-loop-member
invariant-loop-member l = l.line.items ≡ l.initial.line.items ++ flat_map (λ member. codes "," ++ decimal member) (take l.member-index l.members)
