use Rattle.std.proofs.Common.{◌-◌, ◌==◌, ◌∙◌, arith}
use Rattle.std.specs.Int.{bit_at}
use Rattle.committees.proofs.Pass.{swapped_word, either_of}
use Rattle.committees.proofs.narrow.swap_loaded.Goals as goal

pub returns : goal.returns
returns c =
    let images = c.args.sum - c.args.first - 15 in
    swapped_word c.args.bits c.args.sum c.args.first images c.args.list.now c.store.new.list c.store-2.new.list (omega arith) (omega arith) (omega arith)
    (λ j less. c.store.ensures.inside j less ∙ c.mixed.ensures j less ∙ either_of (bit_at c.args.bits j == 1) _ _ _ _ (c.requires.other j less) (c.requires.one j less))
    c.store.ensures.outside
    (λ j less. c.store-2.ensures.inside j less ∙ c.turned.ensures j less ∙ c.mixed-2.ensures (15 - j) (omega arith)
    ∙ either_of (bit_at c.args.bits (15 - j) == 1) _ _ _ _ (c.requires.one (15 - j) (omega arith)) (c.requires.other (15 - j) (omega arith)))
    c.store-2.ensures.outside
