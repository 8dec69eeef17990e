-- One chunk after another.
use Rattle.std.proofs.Common.{◌*◌, ◌+◌, ◌-◌, List, [], ◌∷◌, ◌++◌, length, length-drop, drop, ap, ◌∙◌, arith}
use Rattle.std.proofs.lemmas.List.{take_all}
use Rattle.shared_tree.specs.declared.four.Four.{Four}
use Rattle.shared_tree.specs.inside.Fours.{packed, first_four}
use Rattle.shared_tree.proofs.Packing.{packed_more, packed_all, all_below}
use Rattle.shared_tree.proofs.four.pack.Goals as goal

pub fours-preserved : goal.fours-preserved
fours-preserved c =
    let whole = take_all (length c.args.numbers.now - 4 * c.fours.k) (drop (4 * c.fours.k) c.args.numbers.now) (omega (arith, length-drop (4 * c.fours.k) c.args.numbers.now)) in
    ap (λ (fs : List Four). fs ++ packed (drop (4 * (c.fours.k + 1)) c.args.numbers.now)) (c.in_ok-push.ensures.items ∙ ap (λ (f : Four). c.fours.fours.items ++ f ∷ []) (c.first.ensures ∙ ap first_four whole))
    ∙ packed_more c.args.numbers.now c.fours.k c.fours.fours.items (omega (arith, c.div_ceil-count.ensures, c.fours-test.true)) c.fours.invariant

pub returns-clause-packed : goal.returns-clause-packed
returns-clause-packed c =
    packed_all c.args.numbers.now c.fours.k c.fours.fours.items (omega (arith, c.div_ceil-count.ensures, c.fours-test.false)) c.fours.invariant

pub returns-clause-within : goal.returns-clause-within
returns-clause-within c = all_below c.args.numbers.now (λ i. (c.type_inv.numbers i).fits)
