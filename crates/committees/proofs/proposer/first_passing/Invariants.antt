use Rattle.std.proofs.Common.{◌≡◌, ◌-◌}
use Rattle.bc_words.specs.Outcome.{bind}
use Rattle.bc_words.specs.Searches.{first_from}
use Rattle.committees.specs.Proposers.{candidate_passes, candidate_found}
use Rattle.committees.proofs.proposer.first_passing.Given as goal

abbrev pub invariant-loop-i : goal.invariant-loop-i
invariant-loop-i g l =
    let preset = g.S.Lookup.preset_of l.state in
    let test = candidate_passes preset (g.S.Lookup.effective_at l.state) l.active l.seed in
    let next = candidate_found preset l.active l.seed in
    bind (first_from test (l.bound - l.i) l.i) next ≡ bind (first_from test l.bound 0) next
