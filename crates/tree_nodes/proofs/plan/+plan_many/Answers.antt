-- A plan with changes is that of its halves with theirs.
use Rattle.std.proofs.Common.{◌≡◌, ℕ, suc, ◌+◌, ◌-◌, ◌*◌, ◌<◌, ◌≤◌, ◌^◌, Bool, List, ◌++◌, length, refl, sym, ap, subst, ◌∙◌, arith}
use Rattle.std.proofs.Math.Pow.{pow_mono}
use Rattle.tree_nodes.specs.Changes.{AreChanges}
use Rattle.tree_nodes.specs.inside.Puts.{before, changed_in, Reaches}
use Rattle.tree_nodes.proofs.Many.{always, unreached, before_all, changed_in_none, leaf_changed, half_facts, right_changes, left_changes, many_halves, before_before, one_fewer, reached_below, work_one}
use Rattle.tree_nodes.proofs.Plans.{if_ok}
use Rattle.tree_nodes.proofs.plan.+plan_many.Goals as goal

pub returns-then-not-reaches-clause-put : goal.returns-then-not-reaches-clause-put
returns-then-not-reaches-clause-put g t c =
    let none = subst (λ (b : Bool). Reaches c.args.from c.deref.result.now b) c.if-not-reaches.true c.reaches.ensures in
    let all = unreached (c.args.from + length c.args.node.now.1) c.args.from c.args.changes.now.items c.requires.places (λ front last e. none front last (c.deref.ensures.value ∙ e)) in
    let same = changed_in_none 0 c.args.from c.args.node.now.1 c.args.changes.now.items all in
    ap (λ (p : (ℕ × List _) × ℕ). p.0) c.made.ensures ∙ (c.in_ok-share.ensures ∙ (ap (λ (d : ℕ). (d, c.args.node.now.1)) (sym c.requires.same) ∙ ap (λ (xs : List _). (c.args.depth, xs)) (sym same)))

pub returns-then-not-reaches-clause-rest : goal.returns-then-not-reaches-clause-rest
returns-then-not-reaches-clause-rest g t c =
    let none = subst (λ (b : Bool). Reaches c.args.from c.deref.result.now b) c.if-not-reaches.true c.reaches.ensures in
    let all = unreached (c.args.from + length c.args.node.now.1) c.args.from c.args.changes.now.items c.requires.places (λ front last e. none front last (c.deref.ensures.value ∙ e)) in
    sym (before_all 0 c.args.from c.args.changes.now.items all)

pub returns-then-depth-eq0-clause-put : goal.returns-then-depth-eq0-clause-put
returns-then-depth-eq0-clause-put g t c =
    let some = subst (λ (b : Bool). Reaches c.args.from c.deref.result.now b) c.if-not-reaches.false c.reaches.ensures in
    let one : 2 ^ c.args.depth ≡ 1 = ap (λ (d : ℕ). 2 ^ d) c.if-depth-eq0.true in
    let fits = c.requires.fits in
    let leaf = leaf_changed c.args.from c.args.node.now.1 c.args.changes.now.items c.pop.new.self.items (c.in-Some._at, c.in-Some.leaf) c.in-Some.ensures.items (some.1 c.pop.new.self.items (c.in-Some._at, c.in-Some.leaf) (c.deref.ensures.value ∙ c.in-Some.ensures.items)) (omega arith) c.requires.places in
    ap (λ (p : (ℕ × List _) × ℕ). p.0) c.made-in-Some.ensures ∙ (c.node.ensures ∙ (ap (λ (xs : List _). (0, xs)) (sym leaf.0) ∙ ap (λ (d : ℕ). (d, changed_in c.args.from c.args.node.now.1 c.args.changes.now.items)) (sym c.if-depth-eq0.true)))

pub returns-then-depth-eq0-clause-rest : goal.returns-then-depth-eq0-clause-rest
returns-then-depth-eq0-clause-rest g t c =
    let some = subst (λ (b : Bool). Reaches c.args.from c.deref.result.now b) c.if-not-reaches.false c.reaches.ensures in
    let one : 2 ^ c.args.depth ≡ 1 = ap (λ (d : ℕ). 2 ^ d) c.if-depth-eq0.true in
    let fits = c.requires.fits in
    let leaf = leaf_changed c.args.from c.args.node.now.1 c.args.changes.now.items c.pop.new.self.items (c.in-Some._at, c.in-Some.leaf) c.in-Some.ensures.items (some.1 c.pop.new.self.items (c.in-Some._at, c.in-Some.leaf) (c.deref.ensures.value ∙ c.in-Some.ensures.items)) (omega arith) c.requires.places in
    leaf.1

pub unreachable-requires-in_default : goal.unreachable-requires-in_default
unreachable-requires-in_default g t c =
    let some = subst (λ (b : Bool). Reaches c.args.from c.deref.result.now b) c.if-not-reaches.false c.reaches.ensures in
    let below = reached_below (c.args.from + length c.args.node.now.1) c.args.from c.args.changes.now.items c.requires.places (omega (arith, some.0, ap length c.deref.ensures.value)) (λ front last e. some.1 front last (c.deref.ensures.value ∙ e)) in
    let deep : 0 < c.args.node.now.0 = omega (arith, c.if-depth-eq0.false, c.requires.same) in
    let none : length c.args.node.now.1 ≡ 0 = ap length (c.in_default.ensures.1 deep) in
    omega arith

pub plan_many-requires : goal.plan_many-requires
plan_many-requires g t c κs within =
    let facts = half_facts c.args.node.now c.in-Some-halves.left.now c.in-Some-halves.right.now c.args.depth c.half_width.result c.in-Some-halves.ensures c.requires.same c.half_width.ensures.lower in
    let items : c.args.node.now.1 ≡ c.in-Some-halves.left.now.1 ++ c.in-Some-halves.right.now.1 = ap (λ (v : ℕ × List _). v.1) c.in-Some-halves.ensures.whole in
    let places = right_changes c.args.from (c.args.from + c.half_width.result) c.half_width.result c.in-Some-halves.left.now.1 c.in-Some-halves.right.now.1 c.args.changes.now.items refl facts.3 (subst (λ (xs : List _). AreChanges 0 (c.args.from + length xs) c.args.changes.now.items) items c.requires.places) in
    let width = facts.2 in
    let fits = facts.4 in
    let whole = c.half_width.ensures.half in
    let low = c.requires.low in
    let room = c.requires.within in
    (omega arith, (within, (facts.1, (omega arith, (omega arith, (omega arith, places))))))

pub plan_many-requires-2 : goal.plan_many-requires-2
plan_many-requires-2 g t c κs within =
    let facts = half_facts c.args.node.now c.in-Some-halves.left.now c.in-Some-halves.right.now c.args.depth c.half_width.result c.in-Some-halves.ensures c.requires.same c.half_width.ensures.lower in
    let items : c.args.node.now.1 ≡ c.in-Some-halves.left.now.1 ++ c.in-Some-halves.right.now.1 = ap (λ (v : ℕ × List _). v.1) c.in-Some-halves.ensures.whole in
    let places = left_changes c.args.from (c.args.from + c.half_width.result) c.half_width.result c.in-Some-halves.left.now.1 c.in-Some-halves.right.now.1 c.args.changes.now.items refl facts.3 facts.5 (subst (λ (xs : List _). AreChanges 0 (c.args.from + length xs) c.args.changes.now.items) items c.requires.places) in
    let width = facts.2 in
    let fits = facts.3 in
    let whole = c.half_width.ensures.half in
    let low = c.requires.low in
    let room = c.requires.within in
    (omega arith, (within, (facts.0, (omega arith, (omega arith, (omega arith, subst (λ (cs : List (ℕ × _)). AreChanges 0 (c.args.from + length c.in-Some-halves.left.now.1) cs) (sym c.in_ok-right.ensures.rest) places))))))

pub pair-requires : goal.pair-requires
pair-requires g t c =
    let both = many_halves c.args.node.now c.in-Some-halves.left.now c.in-Some-halves.right.now c.in_ok-left.left.0 c.in_ok-right.right.0 c.args.depth c.half_width.result c.args.from (c.args.from + c.half_width.result) c.args.changes.now.items c.plan_many.new.changes.items c.in-Some-halves.ensures c.requires.same c.half_width.ensures.lower refl c.requires.places c.in_ok-right.ensures.rest c.in_ok-left.ensures.put c.in_ok-right.ensures.put in
    both.0

pub returns-clause-put : goal.returns-clause-put
returns-clause-put g t c =
    let both = many_halves c.args.node.now c.in-Some-halves.left.now c.in-Some-halves.right.now c.in_ok-left.left.0 c.in_ok-right.right.0 c.args.depth c.half_width.result c.args.from (c.args.from + c.half_width.result) c.args.changes.now.items c.plan_many.new.changes.items c.in-Some-halves.ensures c.requires.same c.half_width.ensures.lower refl c.requires.places c.in_ok-right.ensures.rest c.in_ok-left.ensures.put c.in_ok-right.ensures.put in
    if_ok c.pair.result (λ p is. ap (λ (q : (ℕ × List _) × ℕ). q.0) is ∙ both.1) c.pair.ensures

pub returns-clause-rest : goal.returns-clause-rest
returns-clause-rest g t c =
    always c.pair.result (c.in_ok-left.ensures.rest ∙ (ap (before c.args.from) c.in_ok-right.ensures.rest ∙ before_before c.args.from (c.args.from + c.half_width.result) c.args.changes.now.items (omega arith)))

pub returns-clause-work : goal.returns-clause-work
returns-clause-work g t c =
    let some = subst (λ (b : Bool). Reaches c.args.from c.deref.result.now b) c.if-not-reaches.false c.reaches.ensures in
    let fewer : suc (length (before c.args.from c.deref.result.now)) ≤ length c.deref.result.now = one_fewer c.args.from c.deref.result.now some.0 some.1 in
    let all : length c.deref.result.now ≡ length c.args.changes.now.items = ap length c.deref.ensures.value in
    let fewest : length c.plan_many-2.new.changes.items ≡ length (before c.args.from c.deref.result.now) =
    ap length (c.in_ok-left.ensures.rest ∙ (ap (before c.args.from) c.in_ok-right.ensures.rest ∙ (before_before c.args.from (c.args.from + c.half_width.result) c.args.changes.now.items (omega arith) ∙ ap (before c.args.from) (sym c.deref.ensures.value)))) in
    let right : c.in_ok-right.right.1 + length c.plan_many.new.changes.items * (c.args.depth - 1) ≤ length c.args.changes.now.items * (c.args.depth - 1) = c.in_ok-right.ensures.work in
    let left : c.in_ok-left.left.1 + length c.plan_many-2.new.changes.items * (c.args.depth - 1) ≤ length c.plan_many.new.changes.items * (c.args.depth - 1) = c.in_ok-left.ensures.work in
    let work = work_one (c.in_ok-right.right.1 + c.in_ok-left.left.1) c.in_ok-right.right.1 0 (length c.plan_many-2.new.changes.items) (length c.plan_many.new.changes.items) (length c.args.changes.now.items) c.args.depth (omega arith) (omega arith) (omega arith) (omega arith) in
    if_ok c.pair.result (λ p is. let one : p.1 ≡ suc (c.in_ok-left.left.1 + c.in_ok-right.right.1) = ap (λ (q : (ℕ × List _) × ℕ). q.1) is in omega arith) c.pair.ensures

pub returns-clause-nodes : goal.returns-clause-nodes
returns-clause-nodes g t c =
    let facts = half_facts c.args.node.now c.in-Some-halves.left.now c.in-Some-halves.right.now c.args.depth c.half_width.result c.in-Some-halves.ensures c.requires.same c.half_width.ensures.lower in
    let width = facts.2 in
    let whole = c.half_width.ensures.half in
    let right = c.in_ok-right.ensures.nodes in
    let left = c.in_ok-left.ensures.nodes in
    if_ok c.pair.result (λ p is. let one : p.1 ≡ suc (c.in_ok-left.left.1 + c.in_ok-right.right.1) = ap (λ (q : (ℕ × List _) × ℕ). q.1) is in omega arith) c.pair.ensures

pub returns-then-not-reaches-clause-nodes : goal.returns-then-not-reaches-clause-nodes
returns-then-not-reaches-clause-nodes g t c =
    let one : 2 ^ 0 ≤ 2 ^ c.args.depth = pow_mono {i = 0} {j = c.args.depth} (omega arith) in
    let none : c.made.result.1 ≡ 0 = ap (λ (p : (ℕ × List _) × ℕ). p.1) c.made.ensures in
    omega arith

pub returns-then-depth-eq0-clause-nodes : goal.returns-then-depth-eq0-clause-nodes
returns-then-depth-eq0-clause-nodes g t c =
    let one : 2 ^ 0 ≤ 2 ^ c.args.depth = pow_mono {i = 0} {j = c.args.depth} (omega arith) in
    let none : c.made-in-Some.result.1 ≡ 0 = ap (λ (p : (ℕ × List _) × ℕ). p.1) c.made-in-Some.ensures in
    omega arith
