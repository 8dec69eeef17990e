-- The block clashes with one of the other record, or it goes to the book.
use Rattle.std.proofs.Common.{refl}
use Rattle.beacon_node.proofs.Following.{added_beside, block_added, compared, is_clear}
use Rattle.beacon_node.proofs.follow.follow_block.Goals as goal

pub returns-in-Some-clash-clause-over : goal.returns-in-Some-clash-clause-over
returns-in-Some-clash-clause-over c = (
  c.which.ensures.which,
  refl,
  refl,
  compared c.args.side c.args.number c.args.store.now.plain c.args.given.now c.args.book.now c.requires.added c.in-Some.block.now c.in-Ok-Some.state c.root-3.result c.root-3.ensures
      (rw (c.state.ensures.same, c.root-2.ensures) at c.in-Some.ensures) (rw (c.in-Ok-Some.field-0-is, c.root.ensures) at c.in-Ok-Some.ensures.state) _ c.in-Some-clash.ensures,
)

pub add-requires-clause-clear : goal.add-requires-clause-clear
add-requires-clause-clear c =
    is_clear c.args.side c.args.number c.args.store.now.plain c.args.given.now c.args.book.now c.requires.added c.in-Some.block.now c.in-Ok-Some.state c.root-4.result c.root-4.ensures
    (rw (c.state.ensures.same, c.root-2.ensures) at c.in-Some.ensures) (rw (c.in-Ok-Some.field-0-is, c.root.ensures) at c.in-Ok-Some.ensures.state) c.requires.beside (rw (c.root-3.ensures, ← c.root-4.ensures) at c.in_default-clash.ensures)

pub returns-in-Ok-clause-followed : goal.returns-in-Ok-clause-followed
returns-in-Ok-clause-followed c =
    block_added c.args.side c.args.number c.args.store.now.plain c.args.given.now c.args.book.now c.requires.added c.in-Some.block.now c.in-Ok-Some.state c.root-4.result c.root-4.ensures
    (rw (c.state.ensures.same, c.root-2.ensures) at c.in-Some.ensures) (rw (c.in-Ok-Some.field-0-is, c.root.ensures) at c.in-Ok-Some.ensures.state) c.add.new.self c.args.watch.now.entered (rw c.requires.watched refl)
    (rw c.which-2.ensures.which at c.in-Ok.ensures) (rw (c.root-3.ensures, ← c.root-4.ensures) at c.in_default-clash.ensures)

pub returns-in-Ok-clause-same : goal.returns-in-Ok-clause-same
returns-in-Ok-clause-same c = added_beside c.args.side c.args.book.now c.add.new.self _ (rw c.which-2.ensures.which at c.in-Ok.ensures)
