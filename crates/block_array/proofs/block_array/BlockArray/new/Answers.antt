use Rattle.std.proofs.Common.{◌≡◌, ◌++◌, ◌∷◌, [], None, false, length, ap, ◌∙◌, arith}
use Rattle.block_array.proofs.Whole.{new_whole}
use Rattle.block_array.proofs.block_array.BlockArray.new.Goals as goal

pub invariant_of-result : goal.invariant_of-result
invariant_of-result c =
    let full : c.push.new.self.items ≡ record { weight = 0; has_child = false; child = None; descendant = 0 } ∷ [] = c.in_ok-push.ensures.items ∙ ap (λ rs. rs ++ record { weight = 0; has_child = false; child = None; descendant = 0 } ∷ []) c.new-bests.ensures.items in
    let l : length c.push.new.self.items ≡ 1 = ap length full in
    new_whole c.args.slots_per_epoch c.args.percent c.args.slot c.args.root c.args.facts c.in_ok-inputs.inputs.array c.in_ok-tally.tally c.push.new.self.items _ _ c.in_ok-inputs.ensures c.in_ok-tally.ensures.validators c.in_ok-tally.ensures.nodes c.in_ok-tally.ensures.room l (grind arith)
