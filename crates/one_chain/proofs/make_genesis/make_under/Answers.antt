-- The deposits could not be read, or what they make is written.
use Rattle.std.proofs.Common.{[], ◌∷◌}
use Rattle.spec_genesis.specs.DepositsFile.{genesis_file_of}
use Rattle.spec_replay.specs.Genesis.{write_genesis}
use Rattle.one_chain.specs.inside.Making.{EndsWhole}
use Rattle.one_chain.proofs.Outside.{only_shelf, ends_here, unread_causes}
use Rattle.one_chain.proofs.MakingGenesis.{unread_deposits, deposits_end, read_and_written}
use Rattle.one_chain.proofs.make_genesis.make_under.Goals as goal

pub returns-in-Ok-clause-answers : goal.returns-in-Ok-clause-answers
returns-in-Ok-clause-answers g c =
    let ends : EndsWhole c.write_genesis.result (write_genesis (genesis_file_of c.args.config.now.preset c.in-Ok.deposits.items)) _ _ = rw c.preset.ensures.exact at c.write_genesis.ensures.ends in
    deposits_end c.args.config.now c.args.deposits_name.now c.in-Ok.deposits.items c.write_genesis.result _ _ _ _ c.in-Ok.ensures.reads ends

pub returns-in-Ok-clause-outside : goal.returns-in-Ok-clause-outside
returns-in-Ok-clause-outside g c = read_and_written c.read_named.ensures.keeps c.write_genesis.ensures.outside

pub returns-in-Err-clause-answers : goal.returns-in-Err-clause-answers
returns-in-Err-clause-answers g c = rw c.unread.ensures (unread_deposits c.args.config.now c.args.deposits_name.now c.in-Err.trouble _ _ _ c.in-Err.ensures.reads)

pub returns-in-Err-clause-outside : goal.returns-in-Err-clause-outside
returns-in-Err-clause-outside g c =
    rw c.unread.ensures (ends_here (c.args.deposits_name.now ∷ []) [] (only_shelf c.read_named.ensures.keeps) (unread_causes c.in-Err.trouble c.in-Err.ensures.causes))
