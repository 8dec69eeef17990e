-- The blocks with one more, which stands for the state that came with it.
use Rattle.std.proofs.Common.{◌≡◌, ◌+◌, ◌-◌, ◌^◌, ◌<◌, List, [], ◌∷◌, ◌++◌, length, map, min, IfSome, Option, slice_get, refl, sym, ap, ◌∙◌, subst, arith}
use Rattle.std.proofs.lemmas.List.{length-map}
use Rattle.std.proofs.lemmas.Result.{IfOk-from_err}
use Rattle.bc_words.specs.Outcome.{done}
use Rattle.spec_state.specs.declared.plain.PlainState.{PlainState}
use Rattle.state_keeper.specs.declared.entry.Entry.{Entry}
use Rattle.state_keeper.specs.Chain.{Kept}
use Rattle.state_keeper.specs.inside.Entries.{plain_of, distance_at, place_of, IsKeeper}
use Rattle.state_keeper.proofs.Chains.{has_state}
use Rattle.state_keeper.proofs.Keeps.{keeps_added, keeps_still, added_stands, added_blocks, near_at}
use Rattle.state_keeper.proofs.Made.{refused_as_before}
use Rattle.state_keeper.proofs.keeper.Keeper.add.Goals as goal

pub overflow_add-distance : goal.overflow_add-distance
overflow_add-distance g c =
    let inside : c.args.parent < length (map plain_of c.self.inside.entries.items) = subst (λ (kept : Kept _ _). c.args.parent < length kept.blocks) (sym c.self.view_is) c.requires.parent in
    let near = near_at (g.P.Stepper.can_step c.self.inside.stepper) (g.P.Stepper.plain_step c.self.inside.stepper) c.self.inside.entries.items c.self.invariant.each c.args.parent inside in
    let is : c.distance_at-distance.result ≡ distance_at c.self.inside.entries.items c.args.parent = subst (λ (es : List (Entry _ _)). c.distance_at-distance.result ≡ distance_at es c.args.parent) c.as_slice.ensures.value c.distance_at-distance.ensures in
    let few = c.requires.few in
    let below = c.requires.parent in
    omega arith

pub invariant_of-self-in-Some : goal.invariant_of-self-in-Some
invariant_of-self-in-Some g c =
    keeps_added (g.P.Stepper.can_step c.self.inside.stepper) (g.P.Stepper.plain_step c.self.inside.stepper) c.self.inside.entries.items c.as_slice.result.now c.push_entry.new.entries.items c.self.inside.states.items c.push_entry.new.states.items c.self.inside.cache.entries
    (record { block = c.args.block; parent = c.args.parent; distance = c.distance_at-distance.result + 1; kept = place_of (c.distance_at-distance.result + 1) c.self.inside.states.len; state = c.of-seen.result })
    c.args.state c.distance_at-distance.result c.self.inside.states.len c.self.invariant c.as_slice.ensures.value
    (subst (λ (kept : Kept _ _). c.args.parent < length kept.blocks) (sym c.self.view_is) c.requires.parent)
    (subst (λ (kept : Kept _ _). IfSome (slice_get kept.blocks c.args.parent) (λ before. g.P.Stepper.can_step kept.stepper before.state c.args.block)) (sym c.self.view_is) c.requires.can)
    (subst (λ (kept : Kept _ _). IfSome (slice_get kept.blocks c.args.parent) (λ before. g.P.Stepper.plain_step kept.stepper before.state c.args.block ≡ done c.args.state)) (sym c.self.view_is) c.requires.step)
    c.distance_at-distance.ensures refl c.of-seen.ensures refl c.in_ok-state.ensures.kept c.push_entry.ensures.stay c.in_ok-state.ensures.items

pub cache_state-requires : goal.cache_state-requires
cache_state-requires g c =
    let same : c.in-Some.state ≡ c.args.state = subst (λ (o : Option PlainState). IfSome o (λ other. other ≡ c.args.state)) c.in-Some.is c.in_ok-state.ensures.other in
    let long : c.len-number.result ≡ length c.self.inside.entries.items = omega (arith, c.as_slice.ensures.len, ap (λ (es : List (Entry _ _)). length es) c.as_slice.ensures.value) in
    has_state c.push_entry.new.entries.items c.len-number.result c.in-Some.state
    (added_stands c.self.inside.entries.items c.push_entry.new.entries.items
    (record { block = c.args.block; parent = c.args.parent; distance = c.distance_at-distance.result + 1; kept = place_of (c.distance_at-distance.result + 1) c.self.inside.states.len; state = c.of-seen.result })
    c.len-number.result c.in-Some.state c.in_ok-state.ensures.items long (c.of-seen.ensures ∙ sym same))

pub invariant_of-self-in-None : goal.invariant_of-self-in-None
invariant_of-self-in-None g c =
    keeps_added (g.P.Stepper.can_step c.self.inside.stepper) (g.P.Stepper.plain_step c.self.inside.stepper) c.self.inside.entries.items c.as_slice.result.now c.push_entry.new.entries.items c.self.inside.states.items c.push_entry.new.states.items c.self.inside.cache.entries
    (record { block = c.args.block; parent = c.args.parent; distance = c.distance_at-distance.result + 1; kept = place_of (c.distance_at-distance.result + 1) c.self.inside.states.len; state = c.of-seen.result })
    c.args.state c.distance_at-distance.result c.self.inside.states.len c.self.invariant c.as_slice.ensures.value
    (subst (λ (kept : Kept _ _). c.args.parent < length kept.blocks) (sym c.self.view_is) c.requires.parent)
    (subst (λ (kept : Kept _ _). IfSome (slice_get kept.blocks c.args.parent) (λ before. g.P.Stepper.can_step kept.stepper before.state c.args.block)) (sym c.self.view_is) c.requires.can)
    (subst (λ (kept : Kept _ _). IfSome (slice_get kept.blocks c.args.parent) (λ before. g.P.Stepper.plain_step kept.stepper before.state c.args.block ≡ done c.args.state)) (sym c.self.view_is) c.requires.step)
    c.distance_at-distance.ensures refl c.of-seen.ensures refl c.in_ok-state.ensures.kept c.push_entry.ensures.stay c.in_ok-state.ensures.items

pub returns-in-Some-clause-number : goal.returns-in-Some-clause-number
returns-in-Some-clause-number g c =
    let long : c.len-number.result ≡ length c.self.inside.entries.items = omega (arith, c.as_slice.ensures.len, ap (λ (es : List (Entry _ _)). length es) c.as_slice.ensures.value) in
    subst (λ (kept : Kept _ _). c.len-number.result ≡ length kept.blocks) c.self.view_is (long ∙ sym (length-map c.self.inside.entries.items plain_of))

pub returns-in-Some-clause-stepper : goal.returns-in-Some-clause-stepper
returns-in-Some-clause-stepper g c = ap (λ (kept : Kept _ _). kept.stepper) c.cache_state.ensures ∙ ap (λ (kept : Kept _ _). kept.stepper) c.self.view_is

pub returns-in-Some-clause-blocks : goal.returns-in-Some-clause-blocks
returns-in-Some-clause-blocks g c =
    ap (λ (kept : Kept _ _). kept.blocks) c.cache_state.ensures
    ∙ subst (λ (kept : Kept _ _). map plain_of c.push_entry.new.entries.items ≡ kept.blocks ++ record { block = c.args.block; parent = c.args.parent; state = c.args.state } ∷ []) c.self.view_is
    (added_blocks c.self.inside.entries.items c.push_entry.new.entries.items (record { block = c.args.block; parent = c.args.parent; distance = c.distance_at-distance.result + 1; kept = place_of (c.distance_at-distance.result + 1) c.self.inside.states.len; state = c.of-seen.result }) c.args.state c.in_ok-state.ensures.items c.of-seen.ensures)

pub returns-in-Some-clause-succeeds : goal.returns-in-Some-clause-succeeds
returns-in-Some-clause-succeeds g c = λ _. refl

pub returns-in-None-clause-number : goal.returns-in-None-clause-number
returns-in-None-clause-number g c =
    let long : c.len-number.result ≡ length c.self.inside.entries.items = omega (arith, c.as_slice.ensures.len, ap (λ (es : List (Entry _ _)). length es) c.as_slice.ensures.value) in
    subst (λ (kept : Kept _ _). c.len-number.result ≡ length kept.blocks) c.self.view_is (long ∙ sym (length-map c.self.inside.entries.items plain_of))

pub returns-in-None-clause-stepper : goal.returns-in-None-clause-stepper
returns-in-None-clause-stepper g c = ap (λ (kept : Kept _ _). kept.stepper) c.self.view_is

pub returns-in-None-clause-blocks : goal.returns-in-None-clause-blocks
returns-in-None-clause-blocks g c =
    subst (λ (kept : Kept _ _). map plain_of c.push_entry.new.entries.items ≡ kept.blocks ++ record { block = c.args.block; parent = c.args.parent; state = c.args.state } ∷ []) c.self.view_is
    (added_blocks c.self.inside.entries.items c.push_entry.new.entries.items (record { block = c.args.block; parent = c.args.parent; distance = c.distance_at-distance.result + 1; kept = place_of (c.distance_at-distance.result + 1) c.self.inside.states.len; state = c.of-seen.result }) c.args.state c.in_ok-state.ensures.items c.of-seen.ensures)

pub returns-in-None-clause-succeeds : goal.returns-in-None-clause-succeeds
returns-in-None-clause-succeeds g c = λ _. refl

pub returns-in_err-state : goal.returns-in_err-state
returns-in_err-state g c = record {
  number = IfOk-from_err c.from_residual.result _ c.from_residual.ensures.0;
  stepper = ap (λ (kept : Kept _ _). kept.stepper) c.self.view_is;
  blocks = refused_as_before c.from_residual.result _ _ _ c.from_residual.ensures.0 (ap (λ (es : List (Entry _ _)). map plain_of es) c.in_err-state.ensures.same ∙ ap (λ (kept : Kept _ _). kept.blocks) c.self.view_is);
  succeeds = λ spare. absurd (
      let room : c.args.self.now.spare ≡ min (c.self.inside.entries.cap - c.self.inside.entries.len) (c.self.inside.states.cap - c.self.inside.states.len) = sym (ap (λ (kept : Kept _ _). kept.spare) c.self.view_is) in
      let no = c.in_err-state.ensures.succeeds (omega arith) (omega arith) in
      cc);
}

pub overflow_cast-number : goal.overflow_cast-number
overflow_cast-number g c =
    let few : length (map plain_of c.self.inside.entries.items) < 2 ^ 32 - 1 = subst (λ (kept : Kept _ _). length kept.blocks < 2 ^ 32 - 1) (sym c.self.view_is) c.requires.few in
    omega (arith, length-map c.self.inside.entries.items plain_of)

pub invariant_of-self : goal.invariant_of-self
invariant_of-self g c =
    subst (λ es. IsKeeper (g.P.Stepper.can_step c.self.inside.stepper) (g.P.Stepper.plain_step c.self.inside.stepper) es c.push_entry.new.states.items c.self.inside.cache.entries) (sym c.in_err-state.ensures.same)
    (keeps_still (g.P.Stepper.can_step c.self.inside.stepper) (g.P.Stepper.plain_step c.self.inside.stepper) c.self.inside.entries.items c.self.inside.states.items c.push_entry.new.states.items c.self.inside.cache.entries c.self.invariant c.push_entry.ensures.stay)
