-- A header without a root of its state gets that root.
use Rattle.std.proofs.Common.{rules}
use Rattle.spec_state.specs.Genesis.{block_header_of}
use Rattle.transition.proofs.process_slot.closed_header.Goals as goal

pub returns-then-eq : goal.returns-then-eq
unfolding block_header_of
returns-then-eq c = search rules
