use Rattle.std.proofs.Common.{◌≡◌, ◌≤◌, ◌∙◌, ap, refl, subst}
use Rattle.record_file.specs.declared.place.Place.TheVariants.{AtFrame}
use Rattle.record_file.specs.Record.{most_events}
use Rattle.record_file.specs.Frames.{Reading, IsPlace}
use Rattle.record_file.proofs.Nexting.{next_fails, next_given, moves_given, moves_after, stays_given}
use Rattle.record_file.proofs.frames.Frames.read_frame.Goals as goal

pub returns-in-Err-clause-nexts : goal.returns-in-Err-clause-nexts
returns-in-Err-clause-nexts g c =
    let place : c.self.inside.place ≡ AtFrame c.args.version = ap (λ (r : Reading). r.place) c.self.view_is ∙ c.requires.at in
    let events : c.self.inside.events ≤ most_events = subst (λ s. IsPlace s c.self.inside.events) place c.self.invariant in
    rw (c.from.ensures, ← c.self.view_is, place) (next_fails c.args.version c.self.inside.file c.self.inside.events c.self.inside.buffer c.find_frame.new.buffer _ _ events _ c.in-Err.ensures.finds)

pub returns-in-Ok-clause-nexts : goal.returns-in-Ok-clause-nexts
returns-in-Ok-clause-nexts g c =
    let place : c.self.inside.place ≡ AtFrame c.args.version = ap (λ (r : Reading). r.place) c.self.view_is ∙ c.requires.at in
    let events : c.self.inside.events ≤ most_events = subst (λ s. IsPlace s c.self.inside.events) place c.self.invariant in
    rw (← c.self.view_is, place) (next_given c.args.version c.self.inside.file c.self.inside.events c.self.inside.buffer c.find_frame.new.buffer _ _ events c.in-Ok.found _ _ c.in-Ok.ensures.room c.in-Ok.ensures.finds.0 c.in-Ok.ensures.finds.1 (rw place at c.give.ensures.given))

pub returns-in-Ok-clause-moves : goal.returns-in-Ok-clause-moves
returns-in-Ok-clause-moves g c =
    let place : c.self.inside.place ≡ AtFrame c.args.version = ap (λ (r : Reading). r.place) c.self.view_is ∙ c.requires.at in
    rw (← c.self.view_is) (moves_after c.give.result _ _ c.give.new.self refl (moves_given c.args.version c.in-Ok.found c.give.result _ c.give.new.self place c.in-Ok.ensures.whole c.give.ensures.given))

pub returns-in-Ok-clause-file : goal.returns-in-Ok-clause-file
returns-in-Ok-clause-file g c = rw (← c.self.view_is) (stays_given c.in-Ok.found c.give.result _ c.give.new.self _ _ c.in-Ok.ensures.causes c.give.ensures.given).0

pub returns-in-Ok-clause-causes : goal.returns-in-Ok-clause-causes
returns-in-Ok-clause-causes g c = (stays_given c.in-Ok.found c.give.result _ c.give.new.self _ _ c.in-Ok.ensures.causes c.give.ensures.given).1
