-- The lists were followed through the push, also where it was refused.
use Rattle.std.proofs.Common.{subst, sym, ◌^◌, ◌≤◌, ◌++◌, ◌∷◌, [], length}
use Rattle.bc_words.specs.Outcome.{Pushes, checked_push}
use Rattle.active_sets.specs.inside.Kept.{AreActiveIn}
use Rattle.beacon_state.proofs.Followed.{active_pushed}
use Rattle.beacon_state.proofs.state.registry.push.Goals as goal

pub returns-clause-active : goal.returns-clause-active
returns-clause-active c =
    let lists = c.follow_push.new.self in
    active_pushed c.push.result c.args.validators.now c.push.new.self (2 ^ 40) c.args.validator.now lists c.push.ensures.pushes
    (subst (λ validators. AreActiveIn validators lists) c.registry.ensures c.follow_push.ensures.before)
    (subst (λ validators. AreActiveIn (validators ++ c.args.validator.now ∷ []) lists) c.registry.ensures c.follow_push.ensures.behind)

pub returns-clause-pushes : goal.returns-clause-pushes
returns-clause-pushes c =
    subst (λ limit. Pushes c.push.result c.args.validators.now c.push.new.self (checked_push limit c.args.validators.now c.args.validator.now)) (sym c.requires.limit) c.push.ensures.pushes

pub returns-clause-fits : goal.returns-clause-fits
returns-clause-fits c = subst (λ limit. length c.push.new.self ≤ limit) (sym c.requires.limit) c.push.ensures.fits
