use Rattle.std.proofs.Common.{IfErr, refl, subst}
use Rattle.fork_store.specs.Stays.{KeeperStays}
use Rattle.fork_store.proofs.Keepers.{keeper_same}
use Rattle.fork_store.proofs.Stays.{keeper_unchanged, stop_leaves}
use Rattle.fork_store.proofs.Stepping.{shown_by}
use Rattle.fork_store.proofs.Walks.{whole_nodes}
use Rattle.fork_store.proofs.on_block.on_block.Goals as goal

pub block_step-requires-clause-nodes : goal.block_step-requires-clause-nodes
block_step-requires-clause-nodes g c = whole_nodes c.args.store.now c.args.array.now c.args.ready.now c.requires.parts.whole

pub block_step-requires-clause-chained : goal.block_step-requires-clause-chained
block_step-requires-clause-chained g c = c.requires.parts.whole.chained

pub block_step-requires-clause-keeper : goal.block_step-requires-clause-keeper
block_step-requires-clause-keeper g c = c.requires.parts.keeper_of

pub accept_unless-requires-clause-few : goal.accept_unless-requires-clause-few
accept_unless-requires-clause-few g c = c.requires.few

pub accept_unless-requires-clause-behind : goal.accept_unless-requires-clause-behind
accept_unless-requires-clause-behind g c = c.in_ok-step.ensures.behind

pub accept_unless-requires-clause-parent : goal.accept_unless-requires-clause-parent
accept_unless-requires-clause-parent g c = c.in_ok-step.ensures.parent

pub accept_unless-requires-clause-preset : goal.accept_unless-requires-clause-preset
accept_unless-requires-clause-preset g c = c.in_ok-step.ensures.preset

pub accept_unless-requires-clause-linked : goal.accept_unless-requires-clause-linked
accept_unless-requires-clause-linked g c = c.in_ok-step.ensures.linked

pub accept_unless-requires-clause-stepped : goal.accept_unless-requires-clause-stepped
accept_unless-requires-clause-stepped g c = c.in_ok-step.ensures.stepped

pub returns-in_err-step-clause-balances_set_stays : goal.returns-in_err-step-clause-balances_set_stays
returns-in_err-step-clause-balances_set_stays g c = λ _. refl

pub returns-clause-balances_set_stays : goal.returns-clause-balances_set_stays
returns-clause-balances_set_stays g c = c.accept_unless.ensures.balances_set_stays

pub returns-in_err-step-clause-array_stays : goal.returns-in_err-step-clause-array_stays
returns-in_err-step-clause-array_stays g c = stop_leaves _ refl

pub returns-in_err-step-clause-keeper_stays : goal.returns-in_err-step-clause-keeper_stays
returns-in_err-step-clause-keeper_stays g c = stop_leaves _ (keeper_unchanged c.args.keeper.now c.block_step.new.keeper c.in_err-step.ensures.same)

pub returns-clause-array_stays : goal.returns-clause-array_stays
returns-clause-array_stays g c = c.accept_unless.ensures.array_stays

pub returns-clause-keeper_stays : goal.returns-clause-keeper_stays
returns-clause-keeper_stays g c = subst (λ k. IfErr c.accept_unless.result (λ _. KeeperStays k c.accept_unless.new.keeper)) c.in_ok-step.ensures.same c.accept_unless.ensures.keeper_stays

pub parent_number-requires : goal.parent_number-requires
parent_number-requires g c = record { few = c.requires.parts.whole.few }

pub returns-in_err-parent-clause-balances_set_stays : goal.returns-in_err-parent-clause-balances_set_stays
returns-in_err-parent-clause-balances_set_stays g c = λ _. refl

pub returns-in_err-parent-clause-array_stays : goal.returns-in_err-parent-clause-array_stays
returns-in_err-parent-clause-array_stays g c = stop_leaves _ refl

pub returns-in_err-parent-clause-keeper_stays : goal.returns-in_err-parent-clause-keeper_stays
returns-in_err-parent-clause-keeper_stays g c = stop_leaves _ refl

pub block_step-requires-clause-number : goal.block_step-requires-clause-number
block_step-requires-clause-number g c = c.in_ok-parent.ensures.number

pub accept_unless-requires-clause-number : goal.accept_unless-requires-clause-number
accept_unless-requires-clause-number g c = c.in_ok-parent.ensures.number

pub accept_unless-requires-clause-parts : goal.accept_unless-requires-clause-parts
accept_unless-requires-clause-parts g c = record {
  whole = c.requires.parts.whole;
  keeper_of = keeper_same c.args.store.now c.args.keeper.now c.block_step.new.keeper c.requires.parts.keeper_of c.in_ok-step.ensures.same;
}

pub returns-in_err-step-clause-parts : goal.returns-in_err-step-clause-parts
returns-in_err-step-clause-parts g c = record {
  whole = c.requires.parts.whole;
  keeper_of = keeper_same c.args.store.now c.args.keeper.now c.block_step.new.keeper c.requires.parts.keeper_of c.in_err-step.ensures.same;
}

pub returns-in_err-parent-clause-parts : goal.returns-in_err-parent-clause-parts
returns-in_err-parent-clause-parts g c = c.requires.parts

pub returns-clause-parts : goal.returns-clause-parts
returns-clause-parts g c = c.accept_unless.ensures.parts

pub returns-clause-shown : goal.returns-clause-shown
returns-clause-shown g c = shown_by g.V.Visitor.shown c.args.visitor.now.visitor c.block_step.new.visitor.visitor c.in_ok-step.step.entered c.accept_unless.result c.accept_unless.ensures.entered c.in_ok-step.ensures.shown
