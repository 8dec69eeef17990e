-- One more is alike, or all of them are.
use Rattle.std.proofs.Common.{rules, ◌≡◌, take, sym, arith}
use Rattle.std.proofs.lemmas.List.{take_all}
use Rattle.std.proofs.lemmas.List.Elements.{All-more, All-same}
use Rattle.beacon_types.specs.inside.ValidatorChunks.{IsAlike}
use Rattle.beacon_types.proofs.validator_roots.are_alike.Goals as goal

pub each-preserved : goal.each-preserved
each-preserved c =
    All-more (λ v. IsAlike v c.args.first.now) c.args.validators.now c.each.i _ (omega arith) c.each.invariant (c.is_alike.ensures.0 (search rules))

pub returns : goal.returns
returns c =
    let all : take c.each.i c.args.validators.now ≡ c.args.validators.now = take_all c.each.i c.args.validators.now (omega arith) in
    (λ _. All-same (λ v. IsAlike v c.args.first.now) c.args.validators.now (take c.each.i c.args.validators.now) (sym all) c.each.invariant, λ _. search rules)
