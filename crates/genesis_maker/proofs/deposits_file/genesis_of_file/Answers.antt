use Rattle.std.proofs.Common.{sym, ap, subst, arith}
use Rattle.spec_genesis.specs.DepositsFile.{made_of, genesis_file_of}
use Rattle.spec_genesis.proofs.File.{file_is, makes_genesis}
use Rattle.genesis_maker.specs.inside.Making.{GivesFile}
use Rattle.genesis_maker.proofs.Files.{holds_by}
use Rattle.genesis_maker.proofs.deposits_file.genesis_of_file.Goals as goal

pub made_of-requires-clause-short : goal.made_of-requires-clause-short
made_of-requires-clause-short c = let short = (file_is c.args.bytes.now _ (λ i. omega (arith, c.type_inv.bytes i)) c.in-Ok.ensures).short in omega arith

pub returns-in-Ok-clause-file : goal.returns-in-Ok-clause-file
unfolding genesis_file_of
returns-in-Ok-clause-file c = subst (λ r. GivesFile c.made_of.result (made_of c.args.preset.now r)) (sym c.in-Ok.ensures) c.made_of.ensures.file

pub returns-in-Ok-clause-holds : goal.returns-in-Ok-clause-holds
unfolding genesis_file_of
returns-in-Ok-clause-holds c =
    holds_by c.args.preset.now c.made_of.result (genesis_file_of c.args.preset.now c.args.bytes.now)
    (subst (λ r. GivesFile c.made_of.result (made_of c.args.preset.now r)) (sym c.in-Ok.ensures) c.made_of.ensures.file)
    (makes_genesis c.args.preset.now c.args.bytes.now c.requires (λ i. omega (arith, c.type_inv.bytes i)))

pub returns-in-Err-clause-file : goal.returns-in-Err-clause-file
unfolding genesis_file_of
returns-in-Err-clause-file c = ap (made_of c.args.preset.now) c.in-Err.ensures
