use Rattle.std.proofs.Common.{◌≡◌, ℕ, List, ◌∙◌, slice_index, sym, ap, arith}
use Rattle.sha2.specs.Sha256.{schedule}
use Rattle.hash_tree.specs.inside.Lanes.{source_block, source_tail}
use Rattle.hash_tree.proofs.Schedules.{block_word}
use Rattle.hash_tree.proofs.SourceBlocks.{word_behind}
use Rattle.hash_tree.proofs.sources.Seed.fill_sources.Goals as goal

pub returns-then-last : goal.returns-then-last
returns-then-last c j k less below =
    let seed = c.self.inside.bytes in
    let view : seed ≡ c.args.self.now = cc in
    let round = slice_index c.args.rounds.now j in
    let page = slice_index c.args.pages.now j in
    let head = c.source_heads.ensures j less
    ∙ sym (block_word (source_block seed round page) 48 8 (omega arith) ∙ word_behind seed (source_tail round page) 8 (omega arith) (omega arith)) in
    c.fill_near.ensures j round page seed less (omega (arith, c.requires.last j less)) c.self.invariant.1.0 c.self.invariant.1.1 head k below
    ∙ ap (λ (s : List ℕ). slice_index (schedule (source_block s round page) 48) k) view

pub returns-else-last : goal.returns-else-last
returns-else-last c j k less below =
    let view : c.self.inside.bytes ≡ c.args.self.now = cc in
    let round = slice_index c.args.rounds.now j in
    let page = slice_index c.args.pages.now j in
    c.fill.ensures j (source_tail round page) less (λ i low. c.source_tails.ensures i low j less) k below
    ∙ ap (λ (s : List ℕ). slice_index (schedule (source_block s round page) 48) k) view
