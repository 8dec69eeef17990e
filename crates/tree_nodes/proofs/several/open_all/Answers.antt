-- One plan more.
use Rattle.std.proofs.Common.{◌≡◌, ℕ, List, [], ◌∷◌, length, take, drop, sym, ap, subst, ◌∙◌, arith}
use Rattle.std.specs.Prelude.{Option}
use Rattle.std.specs.Vec.Iter.{into_iter_items}
use Rattle.std.proofs.lemmas.List.{take_all}
use Rattle.tree_nodes.specs.inside.Plans.{AreOpen}
use Rattle.tree_nodes.proofs.Climbs.{take_next}
use Rattle.tree_nodes.proofs.Climbs.{drop_next}
use Rattle.tree_nodes.proofs.Plans.{open_none}
use Rattle.tree_nodes.proofs.several.open_all.Goals as goal

pub plans-init : goal.plans-init
plans-init g c =
    let rest = c.into_iter-rest.ensures.rest in
    record {
      rest = rest;
      left = omega (arith, ap length rest);
      so_far =
          subst (λ (ss : List (Option (ℕ × List _))). AreOpen [] ss c.new-halves.result.items) (sym c.in_ok-spots.ensures.items)
          (subst (λ (hs : List ((ℕ × List _) × ℕ)). AreOpen [] [] hs) (sym c.new-halves.ensures.items) open_none);
    }

pub plans-preserved : goal.plans-preserved
plans-preserved g c =
    let dropped : drop c.plans.k c.args.plans.items ≡ c.next_of.result ∷ into_iter_items c.next_of.new.rest = sym c.plans.invariant.rest ∙ c.next_of.ensures in
    let first = ap length c.next_of.ensures in
    let left = c.plans.invariant.left in
    record {
      rest = sym (drop_next c.args.plans.items c.plans.k c.next_of.result (into_iter_items c.next_of.new.rest) dropped);
      left = omega arith;
      so_far = subst (λ (ps : List _). AreOpen ps c.open_one.new.spots.items c.open_one.new.halves.items) (sym (take_next c.args.plans.items c.plans.k c.next_of.result (into_iter_items c.next_of.new.rest) dropped)) (c.in_ok-open_one.ensures (take c.plans.k c.args.plans.items) c.plans.invariant.so_far);
    }

pub returns : goal.returns
returns g c =
    let left = c.plans.invariant.left in
    let test = c.plans-test.false in
    let count = c.len-count.ensures in
    subst (λ (ps : List _). AreOpen ps c.plans.spots.items c.plans.halves.items) (take_all c.plans.k c.args.plans.items (omega arith)) c.plans.invariant.so_far

pub next_of-requires : goal.next_of-requires
next_of-requires g c = omega (arith, c.plans-test.true, c.plans.invariant.left, c.len-count.ensures)
