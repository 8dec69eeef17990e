use Rattle.std.proofs.Common.{arith}
use Rattle.sha2.proofs.Schedule256.{IsRoundsAt_at}
use Rattle.hash_tree.proofs.single.sixteen_steps.Goals as goal

pub returns : goal.returns
returns c = λ b h held.
    let one = c.four_steps-v.ensures b h (IsRoundsAt_at b h _ _ _ _ (omega arith) held) in
    let two = c.four_steps-v-2.ensures b h one in
    let three = c.four_steps-v-3.ensures b h two in
    let four = c.four_steps.ensures b h three in
    IsRoundsAt_at b h _ _ _ _ (omega arith) four
