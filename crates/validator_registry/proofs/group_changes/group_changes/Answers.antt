-- One balance more.
use Rattle.std.proofs.Common.{◌≡◌, ℕ, ◌+◌, ◌/◌, List, [], ◌∷◌, length, take, drop, refl, sym, ap, subst, ◌∙◌, arith}
use Rattle.std.specs.Vec.Iter.{into_iter_items}
use Rattle.std.proofs.lemmas.List.{take_all}
use Rattle.beacon_types.specs.declared.validator.Validator.{Validator}
use Rattle.tree_nodes.specs.Changes.{AreChanges}
use Rattle.tree_nodes.proofs.Changes.{changed_none}
use Rattle.tree_nodes.proofs.Climbs.{take_next, drop_next}
use Rattle.tree_nodes.proofs.Many.{wider}
use Rattle.validator_registry.specs.Registries.{with_balance, with_balances}
use Rattle.validator_registry.specs.inside.Groups.{joined, AreGroups}
use Rattle.validator_registry.proofs.GroupChanges.{balance_none, balance_next, balance_push, balance_places, balance_lengths, balance_reach}
use Rattle.validator_registry.proofs.group_changes.group_changes.Goals as goal

pub balances-init : goal.balances-init
balances-init c =
    let none : length c.new-groups.result.items ≡ 0 = ap length c.new-groups.ensures.items in
    let same = changed_none c.args.tree.now.1 c.new-groups.result.items none in
    record {
      rest = c.into_iter-rest.ensures.rest;
      made = ap joined same ∙ sym (balance_none (joined c.args.tree.now.1) [] refl);
      groups = subst (λ (gs : List (List Validator)). AreGroups gs) (sym same) c.requires.groups;
      places = λ next first. subst (λ (cs : List (ℕ × List Validator)). AreChanges 0 ((next + 15) / 16) cs) (sym c.new-groups.ensures.items) tt;
      few = omega arith;
    }

pub add_balance-requires-clause-within : goal.add_balance-requires-clause-within
add_balance-requires-clause-within c =
    let here = balance_next (length (joined c.args.tree.now.1)) c.balances.k c.args.changes.items (into_iter_items c.next_of-at.new.rest) c.next_of-at.result c.requires.places (sym c.balances.invariant.rest ∙ c.next_of-at.ensures) in
    omega (arith, here.1, ap length c.balances.invariant.made, balance_lengths (joined c.args.tree.now.1) (take c.balances.k c.args.changes.items))

pub add_balance-requires-clause-places : goal.add_balance-requires-clause-places
add_balance-requires-clause-places c =
    let here = balance_next (length (joined c.args.tree.now.1)) c.balances.k c.args.changes.items (into_iter_items c.next_of-at.new.rest) c.next_of-at.result c.requires.places (sym c.balances.invariant.rest ∙ c.next_of-at.ensures) in
    wider 0 ((c.next_of-at.result.0 + 15) / 16) (c.next_of-at.result.0 / 16 + 1) c.balances.groups.items (omega arith) (c.balances.invariant.places c.next_of-at.result.0 here.0)

pub balances-preserved : goal.balances-preserved
balances-preserved c =
    let dropped : drop c.balances.k c.args.changes.items ≡ c.next_of-at.result ∷ into_iter_items c.next_of-at.new.rest = sym c.balances.invariant.rest ∙ c.next_of-at.ensures in
    let here = balance_next (length (joined c.args.tree.now.1)) c.balances.k c.args.changes.items (into_iter_items c.next_of-at.new.rest) c.next_of-at.result c.requires.places dropped in
    let next_take = take_next c.args.changes.items c.balances.k c.next_of-at.result (into_iter_items c.next_of-at.new.rest) dropped in
    let few = c.balances.invariant.few in
    let more = c.in_ok-add_balance.ensures.few in
    record {
      rest = sym (drop_next c.args.changes.items c.balances.k c.next_of-at.result (into_iter_items c.next_of-at.new.rest) dropped);
      made =
          c.in_ok-add_balance.ensures.joined
          ∙ (ap (λ (vs : List Validator). with_balance vs c.next_of-at.result.0 c.next_of-at.result.1) c.balances.invariant.made
          ∙ (sym (balance_push (joined c.args.tree.now.1) 0 c.next_of-at.result.0 c.next_of-at.result.1 (take c.balances.k c.args.changes.items) here.0)
          ∙ ap (λ (cs : List (ℕ × ℕ)). with_balances (joined c.args.tree.now.1) cs) (sym next_take)));
      groups = c.in_ok-add_balance.ensures.groups;
      places = λ next first. balance_places c.next_of-at.result.0 next c.next_of-at.result.1 (take (c.balances.k + 1) c.args.changes.items) (take c.balances.k c.args.changes.items) c.add_balance.new.groups.items next_take c.in_ok-add_balance.ensures.places first;
      few = omega arith;
    }

pub returns-clause-places : goal.returns-clause-places
returns-clause-places c =
    let all = take_all c.balances.k c.args.changes.items (omega (arith, c.balances-test.false, c.len-count.ensures)) in
    balance_reach c.args.tree.now.1 c.balances.groups.items c.requires.groups (c.balances.invariant.places (length (joined c.args.tree.now.1)) (subst (λ (cs : List (ℕ × ℕ)). AreChanges 0 (length (joined c.args.tree.now.1)) cs) (sym all) c.requires.places))
