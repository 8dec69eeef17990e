-- The deposits make no genesis, or it is written.
use Rattle.one_chain.proofs.MakingGenesis.{deposits_stop, none_made}
use Rattle.one_chain.proofs.make_genesis.write_genesis.Goals as goal

pub returns-in-Ok-clause-ends : goal.returns-in-Ok-clause-ends
returns-in-Ok-clause-ends g c = rw (rw c.deref.ensures.value at c.in-Ok.ensures.file) c.write_state.ensures.ends

pub returns-in-Err-clause-ends : goal.returns-in-Err-clause-ends
returns-in-Err-clause-ends g c = rw c.no_made_genesis.ensures (deposits_stop c.args.preset.now c.args.deposits.items c.in-Err.stop _ (rw c.deref.ensures.value at c.in-Err.ensures.file))

pub returns-in-Err-clause-outside : goal.returns-in-Err-clause-outside
returns-in-Err-clause-outside g c = rw c.no_made_genesis.ensures (none_made c.in-Err.stop _)
