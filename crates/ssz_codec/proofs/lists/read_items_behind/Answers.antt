use Rattle.std.proofs.Common.{◌≡◌, ℕ, List, take, Some, subst, ap, ◌∙◌, sym, length, arith}
use Rattle.ssz_codec.specs.Reads.{Fails}
use Rattle.ssz_codec.specs.inside.Reading.{with_one}
use Rattle.ssz_codec.proofs.ItemsLoop.{item_more, item_fails, item_short, items_end, items_over}
use Rattle.ssz_codec.proofs.lists.read_items_behind.Goals as goal

pub returns-then-rest-size : goal.returns-then-rest-size
returns-then-rest-size g c =
    item_short g.T.Ssz.codec.deserialize c.args.size c.args.count c.loop.counter c.loop.values c.loop.rest.now _ c.loop-test.true c.if-rest-size.true c.loop.invariant

pub returns-in-Err : goal.returns-in-Err
returns-in-Err g c =
    let h : Fails c.in-Err.fault (g.T.Ssz.codec.deserialize (take c.args.size c.loop.rest.now)) = subst (λ (l : List ℕ). Fails c.in-Err.fault (g.T.Ssz.codec.deserialize l)) c.split_at.ensures.front c.in-Err.ensures in
    item_fails c.in-Err.fault g.T.Ssz.codec.deserialize c.args.size c.args.count c.loop.counter c.loop.values c.loop.rest.now _ c.loop-test.true c.if-rest-size.false h c.loop.invariant

pub loop-preserved : goal.loop-preserved
loop-preserved g c =
    let is : with_one c.loop.values (g.T.Ssz.codec.deserialize (take c.args.size c.loop.rest.now)) ≡ Some c.read_behind.new.values = ap (λ (l : List ℕ). with_one c.loop.values (g.T.Ssz.codec.deserialize l)) (sym c.split_at.ensures.front) ∙ c.in-Ok.ensures in
    rw c.split_at.ensures.back
    (item_more g.T.Ssz.codec.deserialize c.args.size c.args.count c.loop.counter c.loop.values c.read_behind.new.values c.loop.rest.now _ c.loop-test.true c.if-rest-size.false is c.loop.invariant)

pub returns-in-empty : goal.returns-in-empty
returns-in-empty g c =
    let none : length c.loop.rest.now ≡ 0 = omega arith in
    items_end g.T.Ssz.codec.deserialize c.args.size c.args.count c.loop.counter c.loop.values c.loop.rest.now _ c.loop-test.false none c.loop.invariant

pub returns-in_default : goal.returns-in_default
returns-in_default g c =
    let some : length c.loop.rest.now ≡ 0 → ⊥ = λ e. omega arith in
    items_over g.T.Ssz.codec.deserialize c.args.size c.args.count c.loop.counter c.loop.values c.loop.rest.now _ c.loop-test.false some c.loop.invariant
