use Rattle.std.proofs.Common.{◌≡◌, ◌∙◌, ◌<◌, ◌^◌, None, Some, List, length, subst, sym}
use Rattle.beacon_types.specs.declared.checkpoint.Checkpoint.{Checkpoint}
use Rattle.spec_fork_choice.specs.Store.{KeptBlock}
use Rattle.fork_store.specs.Arrays.{node_number}
use Rattle.fork_store.specs.inside.Keepers.{IsStateBehind}
use Rattle.fork_store.proofs.Finds.{inside}
use Rattle.fork_store.proofs.Keepers.{behind_number}
use Rattle.fork_store.proofs.Silences.{gives_registered, unregistered}
use Rattle.fork_store.proofs.on_attester_slashing.check_registered.Goals as goal

pub node_number-requires : goal.node_number-requires
node_number-requires c = subst (λ (b : List KeptBlock). length b < 2 ^ 32) (sym c.blocks-2.ensures) c.requires.few

pub kept_state-requires-clause-keeper : goal.kept_state-requires-clause-keeper
kept_state-requires-clause-keeper c = c.requires.blocks ∙ sym c.blocks-3.ensures

pub kept_state-requires-clause-inside : goal.kept_state-requires-clause-inside
kept_state-requires-clause-inside c =
    subst (λ (b : List KeptBlock). c.in-Some.number < length b) (sym c.blocks-3.ensures)
    (inside c.args.store.now.blocks c.justified-justified.result.root c.in-Some.number (subst (λ (b : List KeptBlock). Some c.in-Some.number ≡ node_number b c.justified-justified.result.root) c.blocks-2.ensures c.in-Some.ensures))

pub returns-in_default-clause-exact : goal.returns-in_default-clause-exact
returns-in_default-clause-exact c =
    unregistered c.args.store.now c.args.slashing.now
    (subst (λ (p : Checkpoint). None ≡ node_number c.args.store.now.blocks p.root) c.justified-justified.ensures.same
    (subst (λ (b : List KeptBlock). None ≡ node_number b c.justified-justified.result.root) c.blocks-2.ensures c.in_default.ensures))

pub returns-clause-exact : goal.returns-clause-exact
returns-clause-exact c =
    gives_registered c.args.store.now c.args.slashing.now c.check_indices.result c.in_ok-state.state
    (subst (λ (p : Checkpoint). IsStateBehind c.args.store.now.blocks p.root c.in_ok-state.state) c.justified-justified.ensures.same
    (behind_number c.args.store.now.blocks _ _ c.justified-justified.result.root c.in-Some.number c.in_ok-state.state c.blocks-2.ensures c.blocks-3.ensures c.in-Some.ensures c.in_ok-state.ensures.state))
    c.check_indices.ensures
