-- A slashed one that isn't active is reached until it can withdraw.
use Rattle.std.proofs.Common.{◌≡◌, ◌+◌, ◌∙◌, true, false, ◌&&◌, ◌||◌, nat_lt, sym, ap}
use Rattle.spec_state.specs.Predicates.{is_active_validator}
use Rattle.balance_totals.specs.inside.Stakes.{is_reached}
use Rattle.balance_totals.proofs.stake.is_reached.Goals as goal

pub returns-then-slashed : goal.returns-then-slashed
unfolding is_reached
returns-then-slashed c =
    let v = c.args.validator.now in
    let waits = nat_lt (c.args.previous + 1) v.withdrawable_epoch in
    let active = c.is_active_entry.ensures in
    let passed = c.if-is_active_entry.false in
    let inactive : false ≡ is_active_validator v c.args.previous = cc in
    ap (λ epoch. nat_lt (c.args.previous + 1) epoch) c.withdrawable_epoch.ensures
    ∙ ap (λ b. b || (true && waits)) inactive
    ∙ ap (λ b. is_active_validator v c.args.previous || (b && waits)) (sym c.if-slashed.true ∙ c.slashed.ensures)
