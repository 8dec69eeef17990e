-- The group of the last change, or that of the tree.
use Rattle.std.proofs.Common.{◌≡◌, ◌+◌, List, Bool, sym, subst, ◌∙◌}
use Rattle.std.specs.Prelude.{Option, Some, IfOk}
use Rattle.beacon_types.specs.declared.validator.Validator.{Validator}
use Rattle.tree_nodes.specs.inside.Puts.{Reaches}
use Rattle.tree_nodes.proofs.Many.{unreached}
use Rattle.validator_registry.proofs.GroupChanges.{balance_held, balance_untouched}
use Rattle.validator_registry.proofs.group_changes.held_group.Goals as goal

pub returns-then-reaches-clause-places : goal.returns-then-reaches-clause-places
returns-then-reaches-clause-places c =
    let some = subst (λ (b : Bool). Reaches c.args.at c.deref.result.now b) c.if-reaches.true c.reaches.ensures in
    let high = some.1 c.pop.new.self.items (c.in-Some._at, c.in-Some.group) (c.deref.ensures.value ∙ c.in-Some.ensures.items) in
    (balance_held c.args.tree.now.1 c.args.at c.in-Some._at c.in-Some.group c.args.groups.now.items c.pop.new.self.items c.requires.within c.in-Some.ensures.items high c.requires.places).0

pub returns-then-reaches-clause-held : goal.returns-then-reaches-clause-held
returns-then-reaches-clause-held c =
    let some = subst (λ (b : Bool). Reaches c.args.at c.deref.result.now b) c.if-reaches.true c.reaches.ensures in
    let high = some.1 c.pop.new.self.items (c.in-Some._at, c.in-Some.group) (c.deref.ensures.value ∙ c.in-Some.ensures.items) in
    (balance_held c.args.tree.now.1 c.args.at c.in-Some._at c.in-Some.group c.args.groups.now.items c.pop.new.self.items c.requires.within c.in-Some.ensures.items high c.requires.places).1

pub returns-then-reaches-clause-set : goal.returns-then-reaches-clause-set
returns-then-reaches-clause-set c =
    let some = subst (λ (b : Bool). Reaches c.args.at c.deref.result.now b) c.if-reaches.true c.reaches.ensures in
    let high = some.1 c.pop.new.self.items (c.in-Some._at, c.in-Some.group) (c.deref.ensures.value ∙ c.in-Some.ensures.items) in
    (balance_held c.args.tree.now.1 c.args.at c.in-Some._at c.in-Some.group c.args.groups.now.items c.pop.new.self.items c.requires.within c.in-Some.ensures.items high c.requires.places).2

pub returns-clause-places : goal.returns-clause-places
returns-clause-places c =
    let none = subst (λ (b : Bool). Reaches c.args.at c.deref.result.now b) c.if-reaches.false c.reaches.ensures in
    unreached (c.args.at + 1) c.args.at c.args.groups.now.items c.requires.places (λ front last e. none front last (c.deref.ensures.value ∙ e))

pub returns-clause-held : goal.returns-clause-held
returns-clause-held c =
    let none = subst (λ (b : Bool). Reaches c.args.at c.deref.result.now b) c.if-reaches.false c.reaches.ensures in
    let places = unreached (c.args.at + 1) c.args.at c.args.groups.now.items c.requires.places (λ front last e. none front last (c.deref.ensures.value ∙ e)) in
    subst (λ (there : Option (List Validator)). IfOk c.shared_group.result (λ group. there ≡ Some group)) (sym (balance_untouched c.args.tree.now.1 0 c.args.at c.args.groups.now.items places)) c.shared_group.ensures
