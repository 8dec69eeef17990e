use Rattle.std.proofs.Common.{◌≡◌, refl, subst}
use Rattle.bc_words.specs.Outcome.{ChangesOrRefuses}
use Rattle.spec_fork_choice.specs.OnTick.{on_tick}
use Rattle.fork_store.specs.Seen.{Seen}
use Rattle.fork_store.proofs.Keepers.{keeper_stays}
use Rattle.fork_store.proofs.StoreStays.{tick_stays}
use Rattle.fork_store.proofs.store.Store.on_tick.Goals as goal

pub on_tick-requires : goal.on_tick-requires
on_tick-requires c = c.self.invariant.whole

pub invariant_of-self : goal.invariant_of-self
invariant_of-self c = record {
  whole = c.on_tick.ensures.whole;
  keeper_of = keeper_stays c.self.inside.fields c.on_tick.new.store c.self.inside.keeper c.self.invariant.keeper_of c.on_tick.ensures.config c.on_tick.ensures.blocks;
}

pub returns-clause-exact : goal.returns-clause-exact
returns-clause-exact c = subst (λ (s : Seen). ChangesOrRefuses c.on_tick.result s.plain c.on_tick.new.store (on_tick s.plain c.args.time)) c.self.view_is c.on_tick.ensures.exact

pub returns-clause-balances_set_stays : goal.returns-clause-balances_set_stays
returns-clause-balances_set_stays c =
    subst (λ (s : Seen). c.on_tick.new.store.justified_checkpoint ≡ s.plain.justified_checkpoint → c.on_tick.new.array.balances_set ≡ s.array.balances_set) c.self.view_is c.on_tick.ensures.balances_set_stays

pub returns-clause-stays : goal.returns-clause-stays
returns-clause-stays c =
    tick_stays c.self.inside.fields c.on_tick.new.store c.self.inside.array c.on_tick.new.array c.self.inside.keeper c.self.inside.keeper c.args.self.now c.self.view_is
    c.on_tick.result (on_tick c.self.inside.fields c.args.time) c.on_tick.ensures.exact c.on_tick.ensures.stays refl
