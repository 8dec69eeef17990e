-- All items are new.
use Rattle.std.proofs.Common.{◌≡◌, ℕ, ◌+◌, ◌*◌, ◌≤◌, ◌^◌, List, length, ap, subst, ◌∙◌, arith}
use Rattle.std.specs.Prelude.{IfOk}
use Rattle.std.proofs.Math.Pow.{pow_mono}
use Rattle.std.proofs.lemmas.List.{length-map}
use Rattle.tree_nodes.proofs.Every.{every_set}
use Rattle.tree_nodes.proofs.put.put_all.Goals as goal

pub returns-then-count-len-clause-put : goal.returns-then-count-len-clause-put
returns-then-count-len-clause-put g c =
    let same : length c.args.changes.items ≡ length c.args.node.now.1 = omega (arith, c.len-count.ensures, c.if-count-len.true, c.requires.len_is) in
    let items = c.in_ok-items.ensures ∙ every_set c.args.node.now.1 c.args.changes.items same c.requires.places in
    subst (λ (xs : List _). IfOk c.layered.result (λ new. new ≡ (c.args.depth, xs))) items c.layered.ensures.built

pub layered-requires-clause-some : goal.layered-requires-clause-some
layered-requires-clause-some g c =
    omega (arith, ap length c.in_ok-items.ensures ∙ length-map c.args.changes.items (λ change. change.1), c.requires.some)

pub layered-requires-clause-fits : goal.layered-requires-clause-fits
layered-requires-clause-fits g c =
    omega (arith, ap length c.in_ok-items.ensures ∙ length-map c.args.changes.items (λ change. change.1), c.len-count.ensures, c.if-count-len.true, c.requires.len_is, c.requires.fits)

pub returns-then-count-len-clause-work : goal.returns-then-count-len-clause-work
returns-then-count-len-clause-work g c =
    subst (λ (n : ℕ). c.layered.new.steps ≤ c.args.steps.now + n * c.args.depth) (ap length c.in_ok-items.ensures ∙ length-map c.args.changes.items (λ change. change.1)) c.layered.ensures.work

pub returns-in_err-items-clause-nodes : goal.returns-in_err-items-clause-nodes
returns-in_err-items-clause-nodes g c =
    let one : 2 ^ 0 ≤ 2 ^ c.args.depth = pow_mono {i = 0} {j = c.args.depth} (omega arith) in
    omega arith

pub returns-in_err-plan-clause-nodes : goal.returns-in_err-plan-clause-nodes
returns-in_err-plan-clause-nodes g c =
    let one : 2 ^ 0 ≤ 2 ^ c.args.depth = pow_mono {i = 0} {j = c.args.depth} (omega arith) in
    omega arith
