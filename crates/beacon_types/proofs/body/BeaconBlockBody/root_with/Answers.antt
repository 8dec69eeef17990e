-- Most lists of a body are empty.
use Rattle.beacon_types.specs.Containers.{deposit_codec, signed_exit_codec}
use Rattle.beacon_types.specs.Blocks.{proposer_slashing_codec, attester_slashing_codec}
use Rattle.beacon_types.proofs.Empty.{empty_of_sixteen, empty_of_two}
use Rattle.beacon_types.proofs.body.BeaconBlockBody.root_with.Goals as goal

pub root_unless_empty-requires : goal.root_unless_empty-requires
root_unless_empty-requires c none =
    empty_of_sixteen proposer_slashing_codec.hash_tree_root c.args.self.now.proposer_slashings _ c.len.ensures.same none

pub root_unless_empty-requires-2 : goal.root_unless_empty-requires-2
root_unless_empty-requires-2 c none =
    empty_of_two attester_slashing_codec.hash_tree_root c.args.self.now.attester_slashings _ c.len-2.ensures.same none

pub root_unless_empty-requires-3 : goal.root_unless_empty-requires-3
root_unless_empty-requires-3 c none = empty_of_sixteen deposit_codec.hash_tree_root c.args.self.now.deposits _ c.len-3.ensures.same none

pub root_unless_empty-requires-4 : goal.root_unless_empty-requires-4
root_unless_empty-requires-4 c none = empty_of_sixteen signed_exit_codec.hash_tree_root c.args.self.now.voluntary_exits _ c.len-4.ensures.same none
