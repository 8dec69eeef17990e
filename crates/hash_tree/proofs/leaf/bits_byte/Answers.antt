use Rattle.hash_tree.proofs.Bits.{four_bits}
use Rattle.hash_tree.proofs.leaf.bits_byte.Goals as goal

pub returns : goal.returns
returns c = four_bits c.args.bits.now _ _ _ _ c.told-bits c.from.ensures c.from-2.ensures c.from-3.ensures c.from-4.ensures
