-- The block is taken into the store with its step.
use Rattle.std.proofs.Common.{◌∙◌, refl, ap}
use Rattle.spec_state.specs.Genesis.{header_root_of}
use Rattle.spec_transition.specs.ProcessSlots.{Stepped}
use Rattle.fork_store.proofs.KeptConfigs.{kept_now}
use Rattle.fork_store.proofs.Stays.{stop_leaves}
use Rattle.fork_store.proofs.Walks.{whole_nodes}
use Rattle.fork_store.proofs.stepped.on_stepped_block.Goals as goal

pub parent_number-requires : goal.parent_number-requires
parent_number-requires c = record { few = c.requires.parts.whole.few }

pub checked_step-requires-clause-nodes : goal.checked_step-requires-clause-nodes
checked_step-requires-clause-nodes c = whole_nodes c.args.store.now c.args.array.now c.args.ready.now c.requires.parts.whole

pub checked_step-requires-clause-chained : goal.checked_step-requires-clause-chained
checked_step-requires-clause-chained c = c.requires.parts.whole.chained

pub checked_step-requires-clause-number : goal.checked_step-requires-clause-number
checked_step-requires-clause-number c = c.in_ok-parent.ensures.number

pub accept_unless-requires-clause-number : goal.accept_unless-requires-clause-number
accept_unless-requires-clause-number c = c.in_ok-parent.ensures.number

pub accept_unless-requires-clause-behind : goal.accept_unless-requires-clause-behind
accept_unless-requires-clause-behind c = c.in_ok-step.ensures.behind

pub accept_unless-requires-clause-parent : goal.accept_unless-requires-clause-parent
accept_unless-requires-clause-parent c = c.in_ok-step.ensures.parent

pub accept_unless-requires-clause-preset : goal.accept_unless-requires-clause-preset
accept_unless-requires-clause-preset c = c.in_ok-step.ensures.preset

pub accept_unless-requires-clause-linked : goal.accept_unless-requires-clause-linked
accept_unless-requires-clause-linked c = c.in_ok-step.ensures.linked

pub accept_unless-requires-clause-stepped : goal.accept_unless-requires-clause-stepped
accept_unless-requires-clause-stepped c = c.in_ok-step.ensures.stepped

pub returns-in_err-step-clause-balances_set_stays : goal.returns-in_err-step-clause-balances_set_stays
returns-in_err-step-clause-balances_set_stays c = λ _. refl

pub returns-in_err-step-clause-array_stays : goal.returns-in_err-step-clause-array_stays
returns-in_err-step-clause-array_stays c = stop_leaves _ refl

pub returns-in_err-step-clause-keeper_stays : goal.returns-in_err-step-clause-keeper_stays
returns-in_err-step-clause-keeper_stays c = stop_leaves _ refl

pub returns-in_err-parent-clause-balances_set_stays : goal.returns-in_err-parent-clause-balances_set_stays
returns-in_err-parent-clause-balances_set_stays c = λ _. refl

pub returns-in_err-parent-clause-array_stays : goal.returns-in_err-parent-clause-array_stays
returns-in_err-parent-clause-array_stays c = stop_leaves _ refl

pub returns-in_err-parent-clause-keeper_stays : goal.returns-in_err-parent-clause-keeper_stays
returns-in_err-parent-clause-keeper_stays c = stop_leaves _ refl

pub returns-clause-kept : goal.returns-clause-kept
returns-clause-kept c =
    kept_now c.args.store.now c.accept_unless.new.store c.args.block.now.message c.header_root-root.result c.in_ok-step.step c.args.step _ c.accept_unless.result c.in_ok-step.ensures.same
    (c.header_root-root.ensures ∙ ap (λ (s : Stepped). header_root_of s.state) c.step-2.view_is) c.accept_unless.ensures.exact
