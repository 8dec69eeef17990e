use Rattle.std.proofs.Common.{◌%◌, ◌/◌, refl, rules}
use Rattle.committees.proofs.Bits.{sixteen}
use Rattle.committees.proofs.round.sixteen_bits.Goals as goal

pub returns : goal.returns
returns c = λ j less. sixteen c.args.source.now c.args.first (c.args.first % 256 / 8) c.from_le_bytes.result (λ k. search rules) c.requires refl c.from_le_bytes.ensures j less
