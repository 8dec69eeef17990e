use Rattle.std.proofs.Common.{◌≡◌, ℕ, List, false, sym, subst, rules, arith}
use Rattle.beacon_types.specs.Equality.{same_root}
use Rattle.spec_state.specs.Genesis.{zero_root}
use Rattle.spec_state.specs.Soundness.{IsSound}
use Rattle.spec_transition.specs.ProcessSlots.{Stepped}
use Rattle.vectors.proofs.Ends.{is_step, goes_on, next_of}
use Rattle.vectors.proofs.chain_book.ChainBook.add.Goals as goal

pub add-requires-clause-step : goal.add-requires-clause-step
add-requires-clause-step c =
    is_step (record { book = c.self.inside.book; which = c.self.inside.which; root = c.self.inside.root; state = c.self.inside.state }) c.args.event c.root-root.result c.args.block.now (record { state = c.args.state; entered = c.args.watch.now.entered })
    c.self.invariant.0 (c.is_same.ensures (search rules)) c.root-root.ensures (omega arith) (c.is_set.ensures (search rules)) (subst (λ (r : List ℕ). same_root r zero_root ≡ false) c.root.ensures (c.is_set-else-not-is_set.ensures (search rules))) (goes_on c.args.self.now _ c.args.block.now _ c.self.view_is c.requires.step)

pub invariant_of-self-2 : goal.invariant_of-self-2
invariant_of-self-2 c =
    next_of (record { book = c.self.inside.book; which = c.self.inside.which; root = c.self.inside.root; state = c.self.inside.state }) c.self.inside.count _ _ _ _ c.self.invariant.0 c.self.invariant.1 c.self.invariant.2 c.self.invariant.3
    c.requires.sound c.in_ok-add.ensures.0
