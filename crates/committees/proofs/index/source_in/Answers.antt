-- The positions below 256 are on the first page.
use Rattle.std.proofs.Common.{◌≡◌, ◌/◌, sym, ap, ◌∙◌, arith}
use Rattle.committees.specs.Shuffling.{source_of}
use Rattle.committees.proofs.index.source_in.Goals as goal

pub returns : goal.returns
returns c =
    let first : c.args.position / 256 ≡ 0 = omega arith in
    c.requires.first_page (omega arith) ∙ ap (source_of c.args.seed.now c.args.round) (sym first)
