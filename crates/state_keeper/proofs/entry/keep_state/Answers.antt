-- A state is put at the end of the kept ones, or none is.
use Rattle.std.proofs.Common.{◌≡◌, List, [], ◌∷◌, ◌++◌, IfSome, Option, Some, slice_get, sym, ap, ◌∙◌, subst}
use Rattle.state_keeper.proofs.Items.{get_at, get_append}
use Rattle.state_keeper.proofs.Places.{whole_place, other_place}
use Rattle.state_keeper.proofs.entry.keep_state.Goals as goal

pub returns-in_ok-push-clause-place : goal.returns-in_ok-push-clause-place
returns-in_ok-push-clause-place g c = ap (λ n. Some n) c.len-place.ensures ∙ sym (whole_place c.args.distance c.args.states.now.len c.if-distance-eq0.true)

pub returns-in_ok-push-clause-kept : goal.returns-in_ok-push-clause-kept
returns-in_ok-push-clause-kept g c =
    subst (λ (o : Option _). IfSome o (λ place. slice_get c.push.new.self.items place ≡ Some c.args.state)) (sym (whole_place c.args.distance c.args.states.now.len c.if-distance-eq0.true))
    (ap (λ (ss : List _). slice_get ss c.args.states.now.len) c.in_ok-push.ensures.items ∙ ap (λ n. slice_get (c.args.states.now.items ++ c.args.state ∷ []) n) c.args.states.now.ok.0 ∙ get_at c.args.states.now.items c.args.state [])

pub returns-in_ok-push-clause-stay : goal.returns-in_ok-push-clause-stay
returns-in_ok-push-clause-stay g c = λ place state there. ap (λ (ss : List _). slice_get ss place) c.in_ok-push.ensures.items ∙ get_append c.args.states.now.items (c.args.state ∷ []) place state there

pub returns-else-distance-eq0-clause-place : goal.returns-else-distance-eq0-clause-place
returns-else-distance-eq0-clause-place g c = sym (other_place c.args.distance c.args.states.now.len c.if-distance-eq0.false)

pub returns-else-distance-eq0-clause-kept : goal.returns-else-distance-eq0-clause-kept
returns-else-distance-eq0-clause-kept g c =
    subst (λ (o : Option _). IfSome o (λ place. slice_get c.args.states.now.items place ≡ Some c.args.state)) (sym (other_place c.args.distance c.args.states.now.len c.if-distance-eq0.false)) tt
