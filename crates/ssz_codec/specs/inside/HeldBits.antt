-- What a `BitList` holds. Not a definition of the format.
use Rattle.std.specs.Prelude.{◌≡◌, List, Bool, length, take}
use Rattle.ssz_codec.specs.declared.bit_list.BitList.TheInside.{Inside}
use Rattle.hash_tree.specs.Merkle.{bits_bytes}
use Rattle.ssz_codec.specs.laws.BitLists.{whole_bits}

-- so many of the bits of the bytes
abbrev pub held_bits : Inside → List Bool
held_bits b = take b.len (whole_bits b.bytes.items)

-- the bytes are those of the bits
pub record IsHeld (b : Inside) : Type 0 where
  pub count : length (held_bits b) ≡ b.len
  pub packed : bits_bytes (held_bits b) ≡ b.bytes.items
