-- One more is alike, or all of them are.
use Rattle.std.proofs.Common.{rules, ◌≡◌, take, sym, arith}
use Rattle.std.proofs.lemmas.List.{take_all}
use Rattle.std.proofs.lemmas.List.Elements.{All-same}
use Rattle.std.proofs.lemmas.Bool.{false≢true}
use Rattle.beacon_types.specs.inside.ValidatorChunks.{IsAlike}
use Rattle.validator_registry.specs.inside.Groups.{validators_of}
use Rattle.validator_registry.proofs.MemberRoots.{count_of, alike_more, alike_at}
use Rattle.validator_registry.proofs.roots.are_alike.Goals as goal

pub each-preserved : goal.each-preserved
each-preserved c =
    alike_more c.args.other.now c.args.members.now c.args.balances.now c.each.i c.index-members-i.result (omega arith) c.requires
    c.index-members-i.is c.each.invariant (c.is_alike.ensures.0 (search rules))

pub returns : goal.returns
returns c =
    let vs = validators_of c.args.members.now c.args.balances.now in
    let all : take c.each.i vs ≡ vs = take_all c.each.i vs (omega (arith, count_of c.args.members.now c.args.balances.now c.requires)) in
    (λ _. All-same (λ v. IsAlike v c.args.other.now) vs (take c.each.i vs) (sym all) c.each.invariant, λ _. search rules)

pub returns-then-not-is_alike : goal.returns-then-not-is_alike
returns-then-not-is_alike c = (
  λ no. absurd (false≢true no),
  λ all.
      let yes = c.is_alike.ensures.1 (alike_at c.args.other.now c.args.members.now c.args.balances.now c.each.i c.index-members-i.result (omega arith) c.requires c.index-members-i.is all) in
      search rules,
)
