use Rattle.fork_store.proofs.Keepers.{first_clash_is}
use Rattle.fork_store.proofs.get_forkchoice_store.first_clash.Goals as goal

pub returns : goal.returns
returns c = first_clash_is c.args.root c.args.block.now c.clash_with.result c.requires c.clash_with.ensures
