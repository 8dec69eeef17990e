-- The store accepted the event or refused it.
use Rattle.std.proofs.Common.{◌∙◌}
use Rattle.fork_store.specs.Events.{accepted_of}
use Rattle.beacon_node.proofs.Delivering.{accepted_is, accepted_taken, can_keep, refused_taken}
use Rattle.beacon_node.proofs.node.Node.take.Goals as goal

pub accept-requires-clause-can : goal.accept-requires-clause-can
accept-requires-clause-can c =
    can_keep c.args.genesis.now c.args.self.now.blocks.items c.args.self.now.store.plain c.visit_event.new.self.plain _ c.args.event.now (accepted_of c.in-Ok.given) _ _ c.requires.is.follows (rw c.as_slice.ensures at c.are_bytes.ensures)
    (rw c.as_slice-2.ensures at c.in-Ok.ensures.exact) (c.new-watched.ensures ∙ c.new.ensures) c.in-Ok.ensures.shown

pub returns-in-Ok-accept-clause-is : goal.returns-in-Ok-accept-clause-is
returns-in-Ok-accept-clause-is c =
    accepted_is c.args.before c.args.event.now c.args.self.now c.accept.new.self c.visit_event.new.self.plain (accepted_of c.in-Ok.given) (rw c.as_slice-2.ensures at c.in-Ok.ensures.exact) c.accept.ensures.number c.accept.ensures.store
    c.in-Ok-accept.ensures.history c.args.genesis.now c.requires.is (rw c.as_slice.ensures at c.are_bytes.ensures) c.in-Ok-accept.ensures.kept

pub returns-in-Ok-accept-clause-taken : goal.returns-in-Ok-accept-clause-taken
returns-in-Ok-accept-clause-taken c =
    accepted_taken c.args.before c.args.event.now c.args.self.now c.accept.new.self c.visit_event.new.self.plain (accepted_of c.in-Ok.given) (rw c.as_slice-2.ensures at c.in-Ok.ensures.exact) c.accept.ensures.number c.accept.ensures.store
    c.in-Ok-accept.ensures.history c.accept.ensures.accepted c.in-Ok-accept.ensures.lines

pub returns-in-Ok-refuse-clause-taken : goal.returns-in-Ok-refuse-clause-taken
returns-in-Ok-refuse-clause-taken c =
    let exact = rw (c.in-Err-Refused.field-0-is, c.as_slice-2.ensures) at c.in-Err-Refused.ensures.exact in
    refused_taken c.args.before c.args.event.now c.args.self.now c.refuse.new.self c.in-Err-Refused.refusal exact.1 c.refuse.ensures.number (c.refuse.ensures.store ∙ exact.0) c.refuse.ensures.blocks c.refuse.ensures.accepted
    (rw exact.0 at c.in-Ok-refuse.ensures.lines)
