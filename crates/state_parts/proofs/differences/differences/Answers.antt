-- One value more was compared, or all of them were.
use Rattle.std.proofs.Common.{◌≡◌, ◌∷◌, ◌+◌, ◌<◌, length, drop, slice_get, Some, rules, arith, sym, subst, ap, ◌∙◌}
use Rattle.std.proofs.lemmas.Option.{slice_get_within, slice_get-get_or}
use Rattle.state_parts.specs.inside.Differences.{AreDifferences}
use Rattle.state_parts.proofs.Differing.{no_differences, place_compared, all_places, all_made}
use Rattle.state_parts.proofs.LeftOf.{first_left, others_left, nothing_left}
use Rattle.state_parts.proofs.differences.differences.Goals as goal

pub loop-i-init : goal.loop-i-init
loop-i-init g c = record {
  at = search rules;
  within = search rules;
  made = no_differences c.args.list.now.items c.args.values.now _ _ (search rules) (search rules);
}

pub loop-i-preserved : goal.loop-i-preserved
loop-i-preserved g c =
    let old = c.args.list.now.items in
    let new = c.args.values.now in
    let n = c.loop-i.i-iterator.count in
    let x = c.in-Some.kept.now in
    let left = c.next.new.self.iter in
    let step = c.in-Some.ensures.steps in
    let here : x ∷ left ≡ drop n old = sym step.0 ∙ c.loop-i.invariant.at in
    let first = first_left old n x left here in
    let inside = slice_get_within old n x first in
    let less : c.in-Some.i < length new = omega (arith, inside, step.1, c.requires) in
    let becomes = slice_get-get_or new c.in-Some.i _ less ∙ ap Some (sym c.index-values-i.is) in
    let before = subst (λ k. AreDifferences old new k c.loop-i.changes.items) (sym step.1) c.loop-i.invariant.made in
    let compared = place_compared old new c.in-Some.i c.loop-i.changes.items c.compare.new.changes.items x _ (ap (slice_get old) step.1 ∙ first) becomes c.in_ok-compare.ensures before in
    record {
      at = others_left old n x left here ∙ ap (λ k. drop k old) (sym step.2);
      within = omega (arith, inside, step.2);
      made = subst (λ k. AreDifferences old new k c.compare.new.changes.items) (ap (λ k. k + 1) step.1 ∙ sym step.2) compared;
    }

pub returns-clause-places : goal.returns-clause-places
returns-clause-places g c = all_places c.args.list.now.items c.args.values.now c.loop-i.i-iterator.count c.loop-i.changes.items c.loop-i.invariant.within c.loop-i.invariant.made

pub returns-clause-made : goal.returns-clause-made
returns-clause-made g c =
    let old = c.args.list.now.items in
    let over = nothing_left old c.loop-i.i-iterator.count (sym c.in-None.ensures.steps.0.0 ∙ c.loop-i.invariant.at) in
    all_made old c.args.values.now c.loop-i.i-iterator.count c.loop-i.changes.items over (omega (arith, over, c.requires)) c.loop-i.invariant.made
