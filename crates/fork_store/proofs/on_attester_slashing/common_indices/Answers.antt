use Rattle.std.proofs.Common.{◌∙◌}
use Rattle.fork_store.proofs.Silences.{none_common}
use Rattle.fork_store.proofs.on_attester_slashing.common_indices.Goals as goal

pub loop-i-init : goal.loop-i-init
loop-i-init c = c.new-common.ensures.items ∙ none_common c.args.second.now
