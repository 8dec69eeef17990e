use Rattle.std.proofs.Common.{◌≡◌, ◌+◌, ◌%◌, ◌<◌, ◌≤◌, List, length, map, subst, sym, ap, ◌∙◌, arith}
use Rattle.std.proofs.lemmas.List.{length-map}
use Rattle.std.proofs.lemmas.Result.{IfOk-weaker}
use Rattle.state_keeper.specs.Chain.{Kept, HasState, distance_of, kept_every}
use Rattle.state_keeper.specs.declared.entry.Entry.{Entry}
use Rattle.state_keeper.specs.inside.Entries.{plain_of, StandsFor, AreEntries, AreKept, distance_at}
use Rattle.state_keeper.proofs.Chains.{distance_there, has_state}
use Rattle.state_keeper.proofs.keeper.Keeper.made_again.Goals as goal

pub remade-requires : goal.remade-requires
remade-requires g c =
    let within : c.args.n < length (map plain_of c.self.inside.entries.items) = subst (λ (kept : Kept _ _). c.args.n < length kept.blocks) (sym c.self.view_is) c.requires in
    let less : c.args.n < length c.self.inside.entries.items = omega (arith, length-map c.self.inside.entries.items plain_of) in
    record {
      entries = subst (λ (es : List (Entry _ _)). AreEntries (g.P.Stepper.can_step c.self.inside.stepper) (g.P.Stepper.plain_step c.self.inside.stepper) es) (sym c.as_slice-entries.ensures.value) c.self.invariant.each;
      kept = subst (λ (es : List (Entry _ _)). AreKept es c.as_slice-states.result.now) (sym c.as_slice-entries.ensures.value) (subst (λ ss. AreKept c.self.inside.entries.items ss) (sym c.as_slice-states.ensures.value) c.self.invariant.kept);
      inside = subst (λ (es : List (Entry _ _)). c.args.n < length es) (sym c.as_slice-entries.ensures.value) less;
    }

pub returns-clause-state : goal.returns-clause-state
returns-clause-state g c =
    IfOk-weaker c.remade.result (λ state. StandsFor c.as_slice-entries.result.now c.args.n state) (λ state. HasState c.args.self.now.blocks c.args.n state)
    (λ state stands. subst (λ (kept : Kept _ _). HasState kept.blocks c.args.n state) c.self.view_is
    (has_state c.self.inside.entries.items c.args.n state (subst (λ (es : List (Entry _ _)). StandsFor es c.args.n state) c.as_slice-entries.ensures.value stands)))
    c.remade.ensures.state

pub returns-clause-steps : goal.returns-clause-steps
returns-clause-steps g c =
    let there : distance_of (map plain_of c.self.inside.entries.items) c.args.n ≡ distance_at c.as_slice-entries.result.now c.args.n = distance_there (g.P.Stepper.can_step c.self.inside.stepper) (g.P.Stepper.plain_step c.self.inside.stepper) c.self.inside.entries.items c.args.n c.self.invariant.each ∙ ap (λ (es : List (Entry _ _)). distance_at es c.args.n) (sym c.as_slice-entries.ensures.value) in
    subst (λ (kept : Kept _ _). c.remade.new.steps ≤ c.args.steps.now + distance_of kept.blocks c.args.n % kept_every) c.self.view_is
    (subst (λ d. c.remade.new.steps ≤ c.args.steps.now + d % kept_every) (sym there) c.remade.ensures.steps)
