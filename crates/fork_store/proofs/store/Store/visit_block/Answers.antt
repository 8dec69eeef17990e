use Rattle.std.proofs.Common.{◌≡◌, ◌<◌, ◌-◌, ◌^◌, length, subst, sym}
use Rattle.spec_fork_choice.specs.OnBlock.{on_block}
use Rattle.fork_store.specs.Events.{Accepts}
use Rattle.fork_store.specs.Seen.{Seen}
use Rattle.fork_store.proofs.StoreStays.{block_stays}
use Rattle.fork_store.proofs.store.Store.visit_block.Goals as goal

pub on_block-requires-clause-few : goal.on_block-requires-clause-few
on_block-requires-clause-few g c = subst (λ (s : Seen). length s.plain.blocks < 2 ^ 32 - 1) (sym c.self.view_is) c.requires.few

pub invariant_of-self : goal.invariant_of-self
invariant_of-self g c = c.on_block.ensures.parts

pub returns-clause-exact : goal.returns-clause-exact
returns-clause-exact g c = subst (λ (s : Seen). Accepts c.on_block.result s.plain c.on_block.new.store (on_block s.plain c.args.block.now)) c.self.view_is c.on_block.ensures.exact

pub returns-clause-balances_set_stays : goal.returns-clause-balances_set_stays
returns-clause-balances_set_stays g c =
    subst (λ (s : Seen). c.on_block.new.store.justified_checkpoint ≡ s.plain.justified_checkpoint → c.on_block.new.array.balances_set ≡ s.array.balances_set) c.self.view_is c.on_block.ensures.balances_set_stays

pub returns-clause-stays : goal.returns-clause-stays
returns-clause-stays g c =
    block_stays c.self.inside.fields c.on_block.new.store c.self.inside.array c.on_block.new.array c.self.inside.keeper c.on_block.new.keeper c.args.self.now c.self.view_is
    c.on_block.result (on_block c.self.inside.fields c.args.block.now) c.on_block.ensures.exact c.on_block.ensures.array_stays c.on_block.ensures.keeper_stays

pub on_block-requires-clause-parts : goal.on_block-requires-clause-parts
on_block-requires-clause-parts g c = c.self.invariant
