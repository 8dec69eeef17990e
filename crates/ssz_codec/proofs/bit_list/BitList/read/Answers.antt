use Rattle.ssz_codec.specs.laws.BitLists.{reads_from_gives}
use Rattle.ssz_codec.proofs.bit_list.BitList.read.Goals as goal

pub returns-clause-reads : goal.returns-clause-reads
returns-clause-reads c =
    reads_from_gives c.args.limit c.args.bytes.now c.parse.result (λ i. (c.type_inv.bytes i).fits) c.parse.ensures
