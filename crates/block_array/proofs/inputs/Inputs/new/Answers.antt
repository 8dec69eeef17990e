use Rattle.std.proofs.Common.{◌≡◌, ◌∷◌, ◌++◌, [], None, length, ap, ◌∙◌, arith}
use Rattle.block_array.proofs.Holding.{new_held}
use Rattle.block_array.proofs.inputs.Inputs.new.Goals as goal

pub invariant_of-result : goal.invariant_of-result
invariant_of-result c =
    let full : c.push.new.self.items ≡ record { parent = None; slot = c.args.slot; root = c.args.root; facts = c.args.facts } ∷ [] = c.in_ok-push.ensures.items ∙ ap (λ ns. ns ++ record { parent = None; slot = c.args.slot; root = c.args.root; facts = c.args.facts } ∷ []) c.new-nodes.ensures.items in
    new_held c.args.slots_per_epoch c.args.percent c.args.slot c.args.root c.args.facts c.push.new.self.items c.new.result.items c.new-2.result.items c.new-3.result.indices c.new-4.result.items _ _ _ _ c.requires.slots c.requires.percent full c.new.ensures.items c.new-2.ensures.items c.new-3.ensures c.new-4.ensures.items (let l : length c.push.new.self.items ≡ 1 = ap length full in grind arith)
