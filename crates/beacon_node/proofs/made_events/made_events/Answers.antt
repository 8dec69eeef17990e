-- The events are made one after the other.
use Rattle.std.proofs.Common.{◌≡◌, true, false, [], None, arith}
use Rattle.std.proofs.lemmas.List.Elements.{All-push}
use Rattle.bc_outside.specs.Told.{ShelfTold}
use Rattle.record_file.specs.Record.{is_kind}
use Rattle.record_file.specs.declared.event.Event.{Event}
use Rattle.beacon_node.proofs.ManyNodes.{made_all, made_one, made_so_far, made_to_end, not_made}
use Rattle.beacon_node.proofs.made_events.made_events.Goals as goal

-- a made event reads no file
no_files : ShelfTold
no_files = record { files = []; asked = []; faults = 0; contents = None; reliable = false }

pub events-preserved : goal.events-preserved
events-preserved c =
    let next = rw c.in-Ok-Some.field-0-is at (c.in-Ok-Some.ensures.next no_files) in
    let counts = rw c.in-Ok-Some.field-0-is at c.in-Ok-Some.ensures.counts in
    let kind = rw c.in-Ok-Some.field-0-is at c.in-Ok-Some.ensures.kind in
    record {
      comes = rw (c.in-Ok.ensures.items, c.event_of-event.ensures) (made_so_far c.events.events.items c.in-Ok-Some.given.event _ _ _ c.events.invariant.comes (made_one c.events.source c.next_given.new.self c.in-Ok-Some.given.event no_files next));
      kinds = rw (c.in-Ok.ensures.items, c.event_of-event.ensures) (All-push (λ (event : Event). is_kind event.kind ≡ true) c.events.events.items c.in-Ok-Some.given.event c.events.invariant.kinds kind);
      counted = omega (arith, c.in-Ok.ensures.len, c.events.invariant.counted, counts.0);
      few = counts.1;
    }

pub returns-in-Ok-None-clause-made : goal.returns-in-Ok-None-clause-made
returns-in-Ok-None-clause-made c =
    rw c.new-source.ensures at (made_to_end c.events.events.items _ _ c.events.invariant.comes (made_all c.events.source c.next_given.new.self no_files (rw c.in-Ok-None.field-0-is at (c.in-Ok-None.ensures.next no_files))))

pub returns-in-Err-clause-over : goal.returns-in-Err-clause-over
returns-in-Err-clause-over c =
    rw c.not_made.ensures (not_made c.args.which c.in-Err.stop c.events.events.items _ c.events.source c.next_given.new.self no_files (rw c.new-source.ensures at c.events.invariant.comes) (c.in-Err.ensures.next no_files) (c.in-Err.ensures.causes 0))
