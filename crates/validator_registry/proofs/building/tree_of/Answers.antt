-- The groups are written at the first places of a tree of empty ones.
use Rattle.std.proofs.Common.{◌≡◌, ℕ, ◌∙◌, ◌+◌, ◌*◌, ◌≤◌, ◌^◌, List, length, ap, subst}
use Rattle.std.proofs.lemmas.List.{length-replicate}
use Rattle.beacon_types.specs.declared.validator.Validator.{Validator}
use Rattle.tree_nodes.specs.Changes.{changed}
use Rattle.validator_registry.proofs.GroupTrees.{placed_changes, tree_over}
use Rattle.validator_registry.proofs.building.tree_of.Goals as goal

pub put_many-requires : goal.put_many-requires
put_many-requires g c =
    let long : length c.in_ok-tree.tree.1 ≡ 2 ^ c.args.depth =
    ap (λ (t : ℕ × List (List Validator)). length t.1) c.in_ok-tree.ensures
    ∙ length-replicate (2 ^ c.args.depth) c.in_ok-none.none in
    record {
      places =
          placed_changes (2 ^ c.args.depth) c.args.groups.items c.in_ok-tree.tree.1 c.requires.placed c.requires.room long;
    }

pub returns-clause-tree : goal.returns-clause-tree
returns-clause-tree g c =
    tree_over c.args.depth c.in_ok-none.none c.args.groups.items c.put_many.new.self c.in_ok-none.ensures c.requires.low
    c.requires.placed c.requires.groups c.requires.room
    (c.in_ok-put_many.ensures.put
    ∙ ap (λ (t : ℕ × List (List Validator)). (t.0, changed t.1 c.args.groups.items)) c.in_ok-tree.ensures)

pub returns-clause-at_most : goal.returns-clause-at_most
returns-clause-at_most g c =
    subst (λ (d : ℕ). c.put_many.new.steps ≤ c.args.steps.now + length c.args.groups.items * d)
    (ap (λ (t : ℕ × List (List Validator)). t.0) c.in_ok-tree.ensures) c.in_ok-put_many.ensures.at_most
