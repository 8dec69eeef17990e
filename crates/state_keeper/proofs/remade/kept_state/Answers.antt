-- What is read is the entry of which the state is kept, and the state at its place.
use Rattle.std.proofs.Common.{sym, ◌∙◌, arith}
use Rattle.std.proofs.lemmas.Option.{none-some, slice_get_within}
use Rattle.state_keeper.proofs.Ancestors.{kept_read}
use Rattle.state_keeper.proofs.remade.kept_state.Goals as goal

pub bounds-entries-n : goal.bounds-entries-n
bounds-entries-n g c = slice_get_within c.args.entries.now c.args.n c.requires.entry c.requires.there

pub offset_bounds-entries-n : goal.offset_bounds-entries-n
offset_bounds-entries-n g c = let less = slice_get_within c.args.entries.now c.args.n c.requires.entry c.requires.there in omega arith

pub unreachable-requires : goal.unreachable-requires
unreachable-requires g c = none-some c.requires.held.place (sym c.in-None.is ∙ kept_read c.args.entries.now c.args.states.now c.args.n c.requires _)
