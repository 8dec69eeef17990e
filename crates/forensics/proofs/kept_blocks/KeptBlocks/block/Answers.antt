use Rattle.std.proofs.Common.{◌∙◌, List, sym, ap}
use Rattle.std.specs.Option.{option_map}
use Rattle.spec_fork_choice.specs.Store.{KeptBlock, block_of}
use Rattle.forensics.specs.declared.kept_blocks.Kept.{Kept}
use Rattle.forensics.proofs.Kept.{block_found}
use Rattle.forensics.proofs.kept_blocks.KeptBlocks.block.Goals as goal

pub returns-in-Some : goal.returns-in-Some
returns-in-Some c =
    ap (option_map (λ (v : Kept). v.block)) c.in-Some.ensures.value
    ∙ sym (block_found c.self.inside.entries.entries c.args.root)
    ∙ ap (λ (bs : List KeptBlock). option_map (λ (k : KeptBlock). k.block) (block_of bs c.args.root)) c.self.view_is

pub returns-in-None : goal.returns-in-None
returns-in-None c =
    ap (option_map (λ (v : Kept). v.block)) c.in-None.ensures.value
    ∙ sym (block_found c.self.inside.entries.entries c.args.root)
    ∙ ap (λ (bs : List KeptBlock). option_map (λ (k : KeptBlock). k.block) (block_of bs c.args.root)) c.self.view_is
