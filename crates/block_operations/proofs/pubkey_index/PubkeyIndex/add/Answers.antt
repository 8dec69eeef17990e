use Rattle.std.proofs.Common.{ℕ, List, Some, cond, ap, ◌∙◌}
use Rattle.spec_blocks.specs.ProcessDeposit.{same_pubkey}
use Rattle.block_operations.specs.Indexes.{index_in}
use Rattle.block_operations.proofs.pubkey_index.PubkeyIndex.add.Goals as goal

-- as the map inserts it
pub returns-clause-ok : goal.returns-clause-ok
returns-clause-ok c = λ pubkey.
    c.in_ok-insert.ensures.updates.0 pubkey
    ∙ ap (λ (keys : List (List ℕ × ℕ)). cond (same_pubkey c.args.key pubkey) (Some c.args.index) (index_in keys pubkey)) c.self.view_is
