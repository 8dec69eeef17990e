-- The state with both roots and the closed header is the published one.
use Rattle.std.proofs.Common.{refl}
use Rattle.spec_state.specs.Genesis.{header_root_of}
use Rattle.spec_transition.specs.ProcessSlot.{process_slot}
use Rattle.transition.proofs.process_slot.close_slot.Goals as goal

pub returns : goal.returns
unfolding process_slot header_root_of
returns c =
    rw (
      c.in_ok-set_block_roots_at.ensures,
      c.set_latest_block_header.ensures,
      c.in_ok-set_state_roots_at.ensures,
      c.closed_header-header.ensures,
      c.header_root-block_root.ensures,
      c.keep_root-root.ensures.root,
      c.root_index-index.ensures.index,
      c.keep_root-root.ensures.same,
    ) refl
