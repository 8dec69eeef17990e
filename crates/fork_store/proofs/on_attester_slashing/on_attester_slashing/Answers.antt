use Rattle.std.proofs.Common.{refl, rules}
use Rattle.fork_store.proofs.Keepers.{keeper_same, keeper_stays}
use Rattle.fork_store.proofs.Silences.{slashing_done}
use Rattle.fork_store.proofs.Stays.{stop_leaves}
use Rattle.fork_store.proofs.on_attester_slashing.on_attester_slashing.Goals as goal

pub judge-requires : goal.judge-requires
judge-requires c = c.requires.parts.keeper_of

pub add_equivocating-requires : goal.add_equivocating-requires
add_equivocating-requires c = c.requires.parts.whole

pub returns-clause-exact : goal.returns-clause-exact
returns-clause-exact c =
    slashing_done c.args.store.now c.args.slashing.now _ c.deref.result.now c.add_equivocating.new.store c.in_ok-judge.ensures.exact (search rules) c.in_ok-add_equivocating.ensures.exact

pub returns-clause-balances_set_stays : goal.returns-clause-balances_set_stays
returns-clause-balances_set_stays c = c.in_ok-add_equivocating.ensures.balances_set_stays

pub returns-in_err-add_equivocating-clause-balances_set_stays : goal.returns-in_err-add_equivocating-clause-balances_set_stays
returns-in_err-add_equivocating-clause-balances_set_stays c = c.in_err-add_equivocating.ensures.balances_set_stays

pub returns-in_err-judge-clause-stays : goal.returns-in_err-judge-clause-stays
returns-in_err-judge-clause-stays c = stop_leaves _ refl

pub returns-in_err-common-clause-stays : goal.returns-in_err-common-clause-stays
returns-in_err-common-clause-stays c = stop_leaves _ refl

pub returns-in_err-add_equivocating-clause-stays : goal.returns-in_err-add_equivocating-clause-stays
returns-in_err-add_equivocating-clause-stays c = stop_leaves _ c.in_err-add_equivocating.ensures.stays

pub returns-clause-parts : goal.returns-clause-parts
returns-clause-parts c = record {
  whole = c.in_ok-add_equivocating.ensures.whole;
  keeper_of = keeper_stays c.args.store.now c.add_equivocating.new.store c.judge.new.keeper
      (keeper_same c.args.store.now c.args.keeper.now c.judge.new.keeper c.requires.parts.keeper_of c.in_ok-judge.ensures.same)
      c.in_ok-add_equivocating.ensures.config c.in_ok-add_equivocating.ensures.blocks;
}

pub returns-in_err-judge-clause-parts : goal.returns-in_err-judge-clause-parts
returns-in_err-judge-clause-parts c = record {
  whole = c.requires.parts.whole;
  keeper_of = keeper_same c.args.store.now c.args.keeper.now c.judge.new.keeper c.requires.parts.keeper_of c.in_err-judge.ensures.same;
}

pub returns-in_err-common-clause-parts : goal.returns-in_err-common-clause-parts
returns-in_err-common-clause-parts c = record {
  whole = c.requires.parts.whole;
  keeper_of = keeper_same c.args.store.now c.args.keeper.now c.judge.new.keeper c.requires.parts.keeper_of c.in_ok-judge.ensures.same;
}

pub returns-in_err-add_equivocating-clause-parts : goal.returns-in_err-add_equivocating-clause-parts
returns-in_err-add_equivocating-clause-parts c = record {
  whole = c.in_err-add_equivocating.ensures.whole;
  keeper_of = keeper_stays c.args.store.now c.add_equivocating.new.store c.judge.new.keeper
      (keeper_same c.args.store.now c.args.keeper.now c.judge.new.keeper c.requires.parts.keeper_of c.in_ok-judge.ensures.same)
      c.in_err-add_equivocating.ensures.config c.in_err-add_equivocating.ensures.blocks;
}
