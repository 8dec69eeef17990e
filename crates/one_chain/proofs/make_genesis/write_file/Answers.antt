-- The file was written, or a part of it.
use Rattle.one_chain.proofs.MakingGenesis.{file_written, file_unwritten, all_written, unwritten_only}
use Rattle.one_chain.proofs.make_genesis.write_file.Goals as goal

pub returns-in-Ok-clause-ends : goal.returns-in-Ok-clause-ends
returns-in-Ok-clause-ends g c = file_written c.args.file.now _ c.in-Ok.ensures.writes

pub returns-in-Ok-clause-outside : goal.returns-in-Ok-clause-outside
returns-in-Ok-clause-outside g c = all_written c.write_all.ensures.keeps

pub returns-in-Err-clause-ends : goal.returns-in-Err-clause-ends
returns-in-Err-clause-ends g c = rw c.unwritten.ensures (file_unwritten c.args.file.now _ c.in-Err.trouble c.in-Err.ensures.writes)

pub returns-in-Err-clause-outside : goal.returns-in-Err-clause-outside
returns-in-Err-clause-outside g c = rw c.unwritten.ensures (unwritten_only c.in-Err.trouble c.in-Err.ensures.causes c.write_all.ensures.keeps)
