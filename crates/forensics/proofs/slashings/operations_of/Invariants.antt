use Rattle.std.proofs.Common.{◌≡◌, [], ◌++◌, drop}
use Rattle.std.specs.List.{filter_map}
use Rattle.spec_slasher.specs.Operations.{each_once, operation_of}
use Rattle.forensics.proofs.slashings.operations_of.Given as goal

abbrev pub invariant-loop-offence : goal.invariant-loop-offence
invariant-loop-offence l =
    l.operations.items ++ each_once l.operations.items (filter_map (operation_of l.book.genesis l.book.first l.book.second) (drop l.offence-index l.offences))
    ≡ each_once [] (filter_map (operation_of l.book.genesis l.book.first l.book.second) l.offences)
