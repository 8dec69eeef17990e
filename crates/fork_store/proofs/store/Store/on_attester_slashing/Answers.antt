use Rattle.std.proofs.Common.{◌∙◌, ap, subst}
use Rattle.bc_words.specs.Events.{StoreChanges}
use Rattle.spec_fork_choice.specs.OnAttesterSlashing.{on_attester_slashing}
use Rattle.fork_store.specs.inside.Votes.{event_of}
use Rattle.fork_store.specs.Seen.{Seen}
use Rattle.fork_store.proofs.StoreStays.{vote_stays}
use Rattle.fork_store.proofs.store.Store.on_attester_slashing.Goals as goal

pub invariant_of-self : goal.invariant_of-self
invariant_of-self c = c.on_attester_slashing.ensures.parts

pub returns-clause-exact : goal.returns-clause-exact
returns-clause-exact c =
    subst (λ (s : Seen). StoreChanges c.on_attester_slashing.result s.plain c.on_attester_slashing.new.store (event_of (on_attester_slashing s.plain c.args.slashing.now))) c.self.view_is c.on_attester_slashing.ensures.exact

pub returns-clause-balances_set_stays : goal.returns-clause-balances_set_stays
returns-clause-balances_set_stays c = c.on_attester_slashing.ensures.balances_set_stays ∙ ap (λ (s : Seen). s.array.balances_set) c.self.view_is

pub returns-clause-stays : goal.returns-clause-stays
returns-clause-stays c =
    vote_stays c.self.inside.fields c.on_attester_slashing.new.store c.self.inside.array c.on_attester_slashing.new.array c.self.inside.keeper c.on_attester_slashing.new.keeper c.args.self.now c.self.view_is
    c.on_attester_slashing.result (event_of (on_attester_slashing c.self.inside.fields c.args.slashing.now)) c.on_attester_slashing.ensures.exact c.on_attester_slashing.ensures.stays c.on_attester_slashing.ensures.same

pub returns-clause-keeper : goal.returns-clause-keeper
returns-clause-keeper c = c.on_attester_slashing.ensures.same ∙ ap (λ (s : Seen). s.keeper) c.self.view_is

pub on_attester_slashing-requires : goal.on_attester_slashing-requires
on_attester_slashing-requires c = record { parts = c.self.invariant }
