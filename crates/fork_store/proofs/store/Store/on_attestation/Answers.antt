use Rattle.std.proofs.Common.{◌∙◌, ap, subst}
use Rattle.bc_words.specs.Events.{StoreChanges}
use Rattle.spec_fork_choice.specs.OnAttestation.{on_attestation}
use Rattle.fork_store.specs.inside.Votes.{event_of}
use Rattle.fork_store.specs.Seen.{Seen}
use Rattle.fork_store.proofs.StoreStays.{vote_stays}
use Rattle.fork_store.proofs.store.Store.on_attestation.Goals as goal

pub invariant_of-self : goal.invariant_of-self
invariant_of-self c = c.on_attestation.ensures.parts

pub returns-clause-exact : goal.returns-clause-exact
returns-clause-exact c =
    subst (λ (s : Seen). StoreChanges c.on_attestation.result s.plain c.on_attestation.new.store (event_of (on_attestation s.plain c.args.attestation.now c.args.from_block))) c.self.view_is c.on_attestation.ensures.exact

pub returns-clause-balances_set_stays : goal.returns-clause-balances_set_stays
returns-clause-balances_set_stays c = c.on_attestation.ensures.balances_set_stays ∙ ap (λ (s : Seen). s.array.balances_set) c.self.view_is

pub returns-clause-stays : goal.returns-clause-stays
returns-clause-stays c =
    vote_stays c.self.inside.fields c.on_attestation.new.store c.self.inside.array c.on_attestation.new.array c.self.inside.keeper c.on_attestation.new.keeper c.args.self.now c.self.view_is
    c.on_attestation.result (event_of (on_attestation c.self.inside.fields c.args.attestation.now c.args.from_block)) c.on_attestation.ensures.exact c.on_attestation.ensures.stays c.on_attestation.ensures.same

pub returns-clause-keeper : goal.returns-clause-keeper
returns-clause-keeper c = c.on_attestation.ensures.same ∙ ap (λ (s : Seen). s.keeper) c.self.view_is

pub on_attestation-requires : goal.on_attestation-requires
on_attestation-requires c = record { parts = c.self.invariant }
