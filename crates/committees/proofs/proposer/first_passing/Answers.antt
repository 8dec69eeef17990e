-- Where no candidate passes, the bound is met. One that does not pass leaves those behind it.
use Rattle.std.proofs.Common.{rules, ◌∙◌, sym, arith}
use Rattle.committees.specs.Proposers.{candidate_passes, candidate_found}
use Rattle.committees.proofs.Found.{found_ends, found_fails, found_passes, found_stops}
use Rattle.committees.proofs.proposer.first_passing.Goals as goal

pub loop-i-preserved : goal.loop-i-preserved
loop-i-preserved g c =
    let preset = g.S.Lookup.preset_of c.args.state.now in
    let test = candidate_passes preset (g.S.Lookup.effective_at c.args.state.now) c.args.active.now c.args.seed.now in
    let next = candidate_found preset c.args.active.now c.args.seed.now in
    search (rules, c.loop-i.invariant, found_fails test next c.args.bound c.loop-i.i c.loop-i-test.true)

pub returns-in-Some : goal.returns-in-Some
unfolding candidate_found
returns-in-Some g c =
    let preset = g.S.Lookup.preset_of c.args.state.now in
    let test = candidate_passes preset (g.S.Lookup.effective_at c.args.state.now) c.args.active.now c.args.seed.now in
    let next = candidate_found preset c.args.active.now c.args.seed.now in
    search (rules, c.loop-i.invariant, found_passes test next c.args.bound c.loop-i.i c.loop-i-test.true)

pub returns-in_err-index : goal.returns-in_err-index
returns-in_err-index g c =
    let preset = g.S.Lookup.preset_of c.args.state.now in
    let test = candidate_passes preset (g.S.Lookup.effective_at c.args.state.now) c.args.active.now c.args.seed.now in
    let next = candidate_found preset c.args.active.now c.args.seed.now in
    search (rules, c.loop-i.invariant, found_stops test next c.args.bound c.loop-i.i)

pub returns : goal.returns
unfolding candidate_found
returns g c =
    let preset = g.S.Lookup.preset_of c.args.state.now in
    let test = candidate_passes preset (g.S.Lookup.effective_at c.args.state.now) c.args.active.now c.args.seed.now in
    let next = candidate_found preset c.args.active.now c.args.seed.now in
    sym c.loop-i.invariant ∙ found_ends test next c.args.bound c.loop-i.i (omega arith)
