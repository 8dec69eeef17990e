-- An index that is met is among them.
use Rattle.std.proofs.Common.{sym, arith, rules, tests}
use Rattle.std.specs.Prelude.{◌==◌}
use Rattle.std.proofs.lemmas.List.Folds.{list_any_at}
use Rattle.block_operations.proofs.process_attester_slashing.is_among.Goals as goal

pub returns-then-other-index : goal.returns-then-other-index
returns-then-other-index c =
    sym (list_any_at (λ other. other == c.args.index) c.args.indices.now c.loop-other.other-index 0 (omega arith) (search (rules, tests)))
