use Rattle.std.proofs.Common.{◌≡◌, ◌<◌, ◌-◌, ◌^◌, false, length, subst, sym}
use Rattle.spec_state.specs.Genesis.{header_root_of}
use Rattle.spec_fork_choice.specs.Store.{is_kept}
use Rattle.fork_store.specs.KeptStates.{IsStepOfKept}
use Rattle.spec_fork_choice.specs.OnBlock.{on_block}
use Rattle.fork_store.specs.Events.{Accepts}
use Rattle.fork_store.specs.Seen.{Seen}
use Rattle.fork_store.proofs.StoreStays.{block_stays}
use Rattle.fork_store.proofs.store.Store.on_made_block.Goals as goal

pub on_stepped_block-requires-clause-few : goal.on_stepped_block-requires-clause-few
on_stepped_block-requires-clause-few c = subst (λ (s : Seen). length s.plain.blocks < 2 ^ 32 - 1) (sym c.self.view_is) c.requires.few

pub invariant_of-self : goal.invariant_of-self
invariant_of-self c = c.on_stepped_block.ensures.parts

pub returns-clause-exact : goal.returns-clause-exact
returns-clause-exact c = subst (λ (s : Seen). Accepts c.on_stepped_block.result s.plain c.on_stepped_block.new.store (on_block s.plain c.args.block.now)) c.self.view_is c.on_stepped_block.ensures.exact

pub returns-clause-balances_set_stays : goal.returns-clause-balances_set_stays
returns-clause-balances_set_stays c =
    subst (λ (s : Seen). c.on_stepped_block.new.store.justified_checkpoint ≡ s.plain.justified_checkpoint → c.on_stepped_block.new.array.balances_set ≡ s.array.balances_set) c.self.view_is c.on_stepped_block.ensures.balances_set_stays

pub returns-clause-stays : goal.returns-clause-stays
returns-clause-stays c =
    block_stays c.self.inside.fields c.on_stepped_block.new.store c.self.inside.array c.on_stepped_block.new.array c.self.inside.keeper c.on_stepped_block.new.keeper c.args.self.now c.self.view_is
    c.on_stepped_block.result (on_block c.self.inside.fields c.args.block.now) c.on_stepped_block.ensures.exact c.on_stepped_block.ensures.array_stays c.on_stepped_block.ensures.keeper_stays

pub on_stepped_block-requires-clause-parts : goal.on_stepped_block-requires-clause-parts
on_stepped_block-requires-clause-parts c = c.self.invariant

pub returns-clause-kept : goal.returns-clause-kept
returns-clause-kept c = λ none. c.on_stepped_block.ensures.kept (subst (λ (s : Seen). is_kept s.plain.blocks (header_root_of c.args.step.state) ≡ false) (sym c.self.view_is) none)

pub on_stepped_block-requires-clause-made : goal.on_stepped_block-requires-clause-made
on_stepped_block-requires-clause-made c = subst (λ (s : Seen). IsStepOfKept s.plain c.args.block.now.message c.args.step) (sym c.self.view_is) c.requires.made
