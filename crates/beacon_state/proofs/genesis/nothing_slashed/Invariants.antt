use Rattle.std.proofs.Common.{◌≡◌, ◌==◌, drop}
use Rattle.std.specs.List.{list_all}
use Rattle.beacon_state.proofs.genesis.nothing_slashed.Given as goal

-- nothing before this one was slashed
abbrev pub invariant-loop-i : goal.invariant-loop-i
invariant-loop-i l = list_all (λ n. n == 0) (drop l.i l.slashings.items) ≡ list_all (λ n. n == 0) l.slashings.items
