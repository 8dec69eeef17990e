-- So far these blocks were added.
use Rattle.std.proofs.Common.{◌≡◌, ◌-◌, take}
use Rattle.forensics.specs.Books.{history_of}
use Rattle.beacon_node.specs.inside.Nodes.{history_in}
use Rattle.beacon_node.proofs.node_pairs.add_blocks.Given as goal

abbrev pub invariant-loop-added : goal.invariant-loop-added
invariant-loop-added l = record {
  added : history_of l.book l.which ≡ history_in (take l.added-index l.node.blocks.items);
  other : history_of l.book (1 - l.which) ≡ history_of l.initial.book (1 - l.which);
  config : l.book.config ≡ l.initial.book.config;
  genesis : l.book.genesis ≡ l.initial.book.genesis;
}
