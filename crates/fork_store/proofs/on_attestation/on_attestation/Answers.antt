use Rattle.std.proofs.Common.{◌≡◌, ◌∙◌, true, ap, refl, rules, subst, sym}
use Rattle.spec_fork_choice.specs.Store.{Store, is_kept}
use Rattle.spec_fork_choice.specs.UpdateLatestMessages.{update_latest_messages}
use Rattle.fork_store.specs.Keepers.{IsKeeperOf}
use Rattle.fork_store.specs.inside.Wholes.{IsWhole}
use Rattle.fork_store.proofs.Keepers.{keeper_same, keeper_stays}
use Rattle.fork_store.proofs.Stays.{stop_leaves}
use Rattle.fork_store.proofs.Votes.{attestation_done, voted_is_kept}
use Rattle.fork_store.proofs.Walks.{whole_nodes}
use Rattle.fork_store.proofs.on_attestation.on_attestation.Goals as goal

pub returns-clause-exact : goal.returns-clause-exact
returns-clause-exact c =
    attestation_done c.args.store.now c.args.attestation.now c.args.is_from_block c.in_ok-indices.indices.items c.deref.result.now c.update_latest_messages.new.store
    c.in_ok-indices.ensures.exact (search rules)
    (c.in_ok-update_latest_messages.ensures.exact ∙ ap (λ (store : Store). update_latest_messages store c.deref.result.now c.args.attestation.now) c.in_ok-indices.ensures.same)

pub judge-requires-clause-nodes : goal.judge-requires-clause-nodes
judge-requires-clause-nodes c = whole_nodes c.args.store.now c.args.array.now c.args.ready.now c.requires.parts.whole

pub judge-requires-clause-keeper : goal.judge-requires-clause-keeper
judge-requires-clause-keeper c = c.requires.parts.keeper_of

pub update_latest_messages-requires-clause-whole : goal.update_latest_messages-requires-clause-whole
update_latest_messages-requires-clause-whole c = subst (λ (s : Store). IsWhole s c.args.array.now c.args.ready.now) (sym c.in_ok-indices.ensures.same) c.requires.parts.whole

pub update_latest_messages-requires-clause-kept : goal.update_latest_messages-requires-clause-kept
update_latest_messages-requires-clause-kept c =
    subst (λ (s : Store). is_kept s.blocks c.args.attestation.now.content.beacon_block_root ≡ true) (sym c.in_ok-indices.ensures.same)
    (voted_is_kept c.args.store.now c.args.attestation.now c.args.is_from_block c.in_ok-indices.indices.items c.in_ok-indices.ensures.exact)

pub returns-clause-balances_set_stays : goal.returns-clause-balances_set_stays
returns-clause-balances_set_stays c = c.in_ok-update_latest_messages.ensures.balances_set_stays

pub returns-in_err-update_latest_messages-clause-balances_set_stays : goal.returns-in_err-update_latest_messages-clause-balances_set_stays
returns-in_err-update_latest_messages-clause-balances_set_stays c = c.in_err-update_latest_messages.ensures.balances_set_stays

pub returns-in_err-indices-clause-stays : goal.returns-in_err-indices-clause-stays
returns-in_err-indices-clause-stays c = stop_leaves _ refl

pub returns-in_err-update_latest_messages-clause-stays : goal.returns-in_err-update_latest_messages-clause-stays
returns-in_err-update_latest_messages-clause-stays c = stop_leaves _ c.in_err-update_latest_messages.ensures.stays

pub returns-in_err-indices-clause-same : goal.returns-in_err-indices-clause-same
returns-in_err-indices-clause-same c = c.in_err-indices.ensures.keeper

pub returns-in_err-update_latest_messages-clause-same : goal.returns-in_err-update_latest_messages-clause-same
returns-in_err-update_latest_messages-clause-same c = c.in_ok-indices.ensures.keeper

pub returns-clause-same : goal.returns-clause-same
returns-clause-same c = c.in_ok-indices.ensures.keeper

pub returns-clause-parts : goal.returns-clause-parts
returns-clause-parts c = record {
  whole = c.in_ok-update_latest_messages.ensures.whole;
  keeper_of = keeper_stays c.judge.new.store c.update_latest_messages.new.store c.judge.new.keeper
      (subst (λ (s : Store). IsKeeperOf s c.judge.new.keeper) (sym c.in_ok-indices.ensures.same)
      (keeper_same c.args.store.now c.args.keeper.now c.judge.new.keeper c.requires.parts.keeper_of c.in_ok-indices.ensures.keeper))
      c.in_ok-update_latest_messages.ensures.config c.in_ok-update_latest_messages.ensures.blocks;
}

pub returns-in_err-indices-clause-parts : goal.returns-in_err-indices-clause-parts
returns-in_err-indices-clause-parts c = record {
  whole = subst (λ (s : Store). IsWhole s c.args.array.now c.args.ready.now) (sym c.in_err-indices.ensures.same) c.requires.parts.whole;
  keeper_of = subst (λ (s : Store). IsKeeperOf s c.judge.new.keeper) (sym c.in_err-indices.ensures.same)
      (keeper_same c.args.store.now c.args.keeper.now c.judge.new.keeper c.requires.parts.keeper_of c.in_err-indices.ensures.keeper);
}

pub returns-in_err-update_latest_messages-clause-parts : goal.returns-in_err-update_latest_messages-clause-parts
returns-in_err-update_latest_messages-clause-parts c = record {
  whole = c.in_err-update_latest_messages.ensures.whole;
  keeper_of = keeper_stays c.judge.new.store c.update_latest_messages.new.store c.judge.new.keeper
      (subst (λ (s : Store). IsKeeperOf s c.judge.new.keeper) (sym c.in_ok-indices.ensures.same)
      (keeper_same c.args.store.now c.args.keeper.now c.judge.new.keeper c.requires.parts.keeper_of c.in_ok-indices.ensures.keeper))
      c.in_err-update_latest_messages.ensures.config c.in_err-update_latest_messages.ensures.blocks;
}
