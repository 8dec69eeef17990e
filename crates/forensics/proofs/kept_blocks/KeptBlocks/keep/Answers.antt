use Rattle.std.proofs.Common.{◌∙◌, sym}
use Rattle.forensics.proofs.Kept.{kept_more, kept_same}
use Rattle.forensics.proofs.kept_blocks.KeptBlocks.keep.Goals as goal

pub returns-then-contains_key : goal.returns-then-contains_key
returns-then-contains_key c = kept_same c.self.inside.entries.entries c.args.self.now (record { root = c.args.root; block = c.args.block.now; state = c.args.state.now }) c.self.view_is (sym c.contains_key.ensures ∙ c.if-contains_key.true)

pub returns : goal.returns
returns c =
    kept_more c.self.inside.entries.entries c.insert.new.self.entries c.args.self.now c.args.root _ c.args.block.now c.args.state.now c.self.view_is (sym c.contains_key.ensures ∙ c.if-contains_key.false) c.in_ok-_none.ensures.entries c.in_ok-block.ensures c.of-state.ensures
