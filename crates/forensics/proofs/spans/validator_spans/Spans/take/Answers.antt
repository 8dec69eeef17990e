use Rattle.std.proofs.Common.{ap}
use Rattle.forensics.specs.Spans.{HeldSpans}
use Rattle.forensics.proofs.Adding.{slashable_taken, slashable_untaken, known_taken, new_taken}
use Rattle.forensics.proofs.spans.validator_spans.Spans.take.Goals as goal

pub returns-in-Some-clause-after : goal.returns-in-Some-clause-after
returns-in-Some-clause-after g c =
    slashable_taken c.args.contents.now c.self.inside.votes.items c.self.inside.offence c.args.self.now.spans c.args.vote (ap (λ (h : HeldSpans). h.spans) c.self.view_is) c.if-is_some.ensures
    c.deref-then-is_slashable_with_any.result.now c.deref-then-is_slashable_with_any.ensures.value c.least_slashable.result c.in-Some.earlier c.least_slashable.ensures.least c.in-Some.is

pub returns-in_default-clause-after : goal.returns-in_default-clause-after
returns-in_default-clause-after g c =
    absurd (slashable_untaken c.args.contents.now c.self.inside.votes.items c.self.inside.offence c.args.self.now.spans c.args.vote (ap (λ (h : HeldSpans). h.spans) c.self.view_is) c.if-is_some.ensures
    c.deref-then-is_slashable_with_any.result.now c.deref-then-is_slashable_with_any.ensures.value c.least_slashable.result c.deref-2.result.now c.deref-2.ensures.value c.if-is_slashable_with_any.ensures c.least_slashable.ensures.least c.in_default.is)

pub returns-in_ok-insert-clause-after : goal.returns-in_ok-insert-clause-after
returns-in_ok-insert-clause-after g c =
    new_taken c.args.contents.now c.self.inside.votes.items c.self.inside.offence c.args.self.now.spans c.args.vote (ap (λ (h : HeldSpans). h.spans) c.self.view_is) c.if-is_some.ensures
    c.deref.result.now c.deref.ensures.value c.deref-2.result.now c.deref-3.result.now c.deref-2.ensures.value c.deref-3.ensures.value
    c.if-is_slashable_with_any.ensures c.target_of.result c.place_of-place.result c.target_of.ensures c.place_of-place.ensures.place
    c.insert.new.self.items c.in_ok-insert.ensures.items c.if-not-stands_at.ensures

pub returns-else-not-stands_at-clause-after : goal.returns-else-not-stands_at-clause-after
returns-else-not-stands_at-clause-after g c =
    known_taken c.args.contents.now c.self.inside.votes.items c.self.inside.offence c.args.self.now.spans c.args.vote (ap (λ (h : HeldSpans). h.spans) c.self.view_is) c.if-is_some.ensures
    c.deref.result.now c.deref.ensures.value c.deref-2.result.now c.deref-3.result.now c.deref-2.ensures.value c.deref-3.ensures.value
    c.if-is_slashable_with_any.ensures c.target_of.result c.place_of-place.result c.target_of.ensures c.place_of-place.ensures.place
    c.if-not-stands_at.ensures
