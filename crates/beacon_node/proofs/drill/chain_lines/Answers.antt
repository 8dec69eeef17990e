-- The run of the events broke off, or all of it is told.
use Rattle.std.proofs.Common.{◌≡◌, ◌∙◌, true, false, refl, inl, inr}
use Rattle.beacon_node.specs.inside.Drilled.{is_done}
use Rattle.beacon_node.proofs.Drilled.{stops_before, is_all, own_outside}
use Rattle.beacon_node.proofs.drill.chain_lines.Goals as goal

pub returns-then-not-is_done-clause-told : goal.returns-then-not-is_done-clause-told
returns-then-not-is_done-clause-told g c =
    let other : is_done c.digest_events-status.result.0 ≡ false = (let same = c.is_done.ensures in let no_more = c.if-not-is_done.true in cc) in
    stops_before c.args.store.plain c.args.maker c.digest_events-status.result.0 c.digest_events-status.result.1 _ _ _ _ refl c.digest_events-status.ensures.over other

pub returns-in-Ok-clause-told : goal.returns-in-Ok-clause-told
returns-in-Ok-clause-told g c =
    let all : is_done c.digest_events-status.result.0 ≡ true = (let same = c.is_done.ensures in let more = c.if-not-is_done.false in cc) in
    let told = is_all c.args.store.plain c.args.maker c.digest_events-status.result.0 c.digest_events-status.result.1 _ _ _ _ refl c.digest_events-status.ensures.over all in
    (told.0, c.in-Ok.ensures.lines ∙ told.1)

pub returns-clause-told : goal.returns-clause-told
returns-clause-told g c = (refl, λ never. absurd cc)

pub returns-then-not-is_done-clause-outside : goal.returns-then-not-is_done-clause-outside
returns-then-not-is_done-clause-outside g c =
    let other : is_done c.digest_events-status.result.0 ≡ false = (let same = c.is_done.ensures in let no_more = c.if-not-is_done.true in cc) in
    own_outside _ c.digest_events-status.result.0 _ _ c.digest_events-status.ensures.outside c.digest_events-status.ensures.command (inl (refl, other))

pub returns-in-Ok-clause-outside : goal.returns-in-Ok-clause-outside
returns-in-Ok-clause-outside g c = own_outside _ c.digest_events-status.result.0 _ _ c.digest_events-status.ensures.outside c.digest_events-status.ensures.command tt

pub returns-clause-outside : goal.returns-clause-outside
returns-clause-outside g c = own_outside _ c.digest_events-status.result.0 _ _ c.digest_events-status.ensures.outside c.digest_events-status.ensures.command (inr refl)
