use Rattle.std.proofs.Common.{sym, refl, add-zero}
use Rattle.hash_tree.proofs.Lanes.{below_eight}
use Rattle.hash_tree.proofs.sources.eight_pages.Goals as goal

pub returns : goal.returns
returns c = below_eight _ (sym (add-zero c.args.first)) refl refl refl refl refl refl refl
