use Rattle.std.proofs.Common.{◌≡◌, ◌∙◌, ap, sym, subst}
use Rattle.record_file.specs.declared.place.Place.TheVariants.{AtMagic}
use Rattle.record_file.specs.Frames.{Reading, IsPlace}
use Rattle.record_file.proofs.Nexting.{begin_fails, begin_fault, begin_ok}
use Rattle.record_file.proofs.frames.Frames.read_magic.Goals as goal

pub returns-in-Err-clause-begins : goal.returns-in-Err-clause-begins
returns-in-Err-clause-begins g c =
    let place : c.self.inside.place ≡ AtMagic = ap (λ (r : Reading). r.place) c.self.view_is ∙ c.requires.at in
    let events : c.self.inside.events ≡ 0 = subst (λ s. IsPlace s c.self.inside.events) place c.self.invariant in
    rw (c.from.ensures, ← c.self.view_is, place, events) (begin_fails c.self.inside.file c.self.inside.buffer c.fill.new.buffer _ _ _ c.in-Err.ensures.fills)

pub returns-in-None-clause-begins : goal.returns-in-None-clause-begins
returns-in-None-clause-begins g c =
    let place : c.self.inside.place ≡ AtMagic = ap (λ (r : Reading). r.place) c.self.view_is ∙ c.requires.at in
    let events : c.self.inside.events ≡ 0 = subst (λ s. IsPlace s c.self.inside.events) place c.self.invariant in
    let none = sym (rw c.as_slice.ensures at c.version_of.ensures) ∙ c.in-None.is in
    rw (← c.self.view_is, place, events) (begin_fault c.self.inside.file c.self.inside.buffer c.fill.new.buffer _ _ c.in-Ok.ensures.fills none)

pub returns-in-Some-clause-begins : goal.returns-in-Some-clause-begins
returns-in-Some-clause-begins g c =
    let place : c.self.inside.place ≡ AtMagic = ap (λ (r : Reading). r.place) c.self.view_is ∙ c.requires.at in
    let events : c.self.inside.events ≡ 0 = subst (λ s. IsPlace s c.self.inside.events) place c.self.invariant in
    let some = sym (rw c.as_slice.ensures at c.version_of.ensures) ∙ c.in-Some.is in
    rw (← c.self.view_is, place, events) (begin_ok c.self.inside.file c.self.inside.buffer c.fill.new.buffer _ _ c.in-Some.version c.read.new.self c.in-Ok.ensures.fills some c.read.ensures)
