use Rattle.std.proofs.Common.{◌≡◌, ◌*◌}
use Rattle.sha2.specs.Sha256.{rounds, schedule}
use Rattle.hash_tree.specs.inside.Lanes.{padding_block}
use Rattle.hash_tree.proofs.single.compress_padding.Given as goal

-- the rounds so far
abbrev pub invariant-turns : goal.invariant-turns
invariant-turns l = l.v ≡ rounds l.h (schedule padding_block 48) (16 * l.turn)
