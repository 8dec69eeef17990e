use Rattle.std.proofs.Common.{◌∙◌, sym}
use Rattle.safety_law.proofs.Beginning.{begins_by}
use Rattle.forensics.proofs.beginning.begins.Goals as goal

pub returns : goal.returns
returns c = begins_by c.args.genesis.now c.requires.checked c.preset-preset.ensures.preset (sym c.block_roots_len-roots.ensures.len ∙ c.block_roots_len-roots.ensures.limit) c.has_four_bits.ensures c.requires.state_root_is_set
