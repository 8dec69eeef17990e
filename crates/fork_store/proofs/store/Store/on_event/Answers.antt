use Rattle.std.proofs.Common.{ℕ, subst}
use Rattle.spec_fork_choice.specs.OnEvent.{on_event}
use Rattle.fork_store.specs.Events.{AcceptsBy, accepted_of}
use Rattle.fork_store.proofs.store.Store.on_event.Goals as goal

pub returns-clause-exact : goal.returns-clause-exact
returns-clause-exact c =
    subst (λ (n : ℕ). AcceptsBy accepted_of c.take_event.result c.args.self.now.plain c.take_event.new.self.plain (on_event c.args.self.now.plain n c.args.payload.now)) c.of.ensures c.take_event.ensures.exact
