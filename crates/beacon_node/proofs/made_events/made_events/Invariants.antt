-- So far these events were made, and the others are still to come.
use Rattle.std.proofs.Common.{◌≡◌, ◌-◌, ◌≤◌, [], ◌++◌, All, length, true}
use Rattle.record_file.specs.Record.{is_kind, most_events}
use Rattle.chain_maker.specs.Source.{made_source}
use Rattle.beacon_node.proofs.made_events.made_events.Given as goal

abbrev pub invariant-events : goal.invariant-events
invariant-events l = record {
  comes : (made_source l.initial.source).coming [] ≡ record { events = l.events.items ++ ((made_source l.source).coming []).events; end = ((made_source l.source).coming []).end };
  kinds : All (λ event. is_kind event.kind ≡ true) l.events.items;
  counted : length l.events.items ≡ l.source.given;
  few : l.source.given ≤ most_events;
}

abbrev pub decreases-events : goal.decreases-events
decreases-events l = most_events - l.source.given
