use Rattle.std.proofs.Common.{◌≡◌, ◌<◌, ◌^◌, List, Some, None, length, subst, sym}
use Rattle.spec_fork_choice.specs.Store.{KeptBlock}
use Rattle.fork_store.specs.Arrays.{node_number}
use Rattle.fork_store.proofs.Stepping.{parent_unknown}
use Rattle.fork_store.proofs.on_block.parent_number.Goals as goal

pub node_number-requires : goal.node_number-requires
node_number-requires c = subst (λ (b : List KeptBlock). length b < 2 ^ 32) (sym c.blocks-2.ensures) c.requires.few

pub returns-in-Some-clause-number : goal.returns-in-Some-clause-number
returns-in-Some-clause-number c = subst (λ (b : List KeptBlock). Some c.in-Some.parent ≡ node_number b c.args.block.now.message.parent_root) c.blocks-2.ensures c.in-Some.ensures

pub returns-in-None-clause-unknown : goal.returns-in-None-clause-unknown
returns-in-None-clause-unknown c =
    parent_unknown c.args.store.now c.args.block.now (subst (λ (b : List KeptBlock). None ≡ node_number b c.args.block.now.message.parent_root) c.blocks-2.ensures c.in-None.ensures)
