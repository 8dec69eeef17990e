use Rattle.std.proofs.Common.{◌≡◌, ◌<◌, List, Some, length, subst, sym}
use Rattle.spec_fork_choice.specs.Store.{KeptBlock}
use Rattle.fork_store.specs.Arrays.{node_number}
use Rattle.fork_store.proofs.Finds.{inside}
use Rattle.fork_store.proofs.store.Store.state.Goals as goal

pub kept_state-requires-clause-inside : goal.kept_state-requires-clause-inside
kept_state-requires-clause-inside c =
    subst (λ (b : List KeptBlock). c.in-Some.number < length b) (sym c.blocks-3.ensures)
    (inside c.self.inside.fields.blocks c.args.root c.in-Some.number (subst (λ (b : List KeptBlock). Some c.in-Some.number ≡ node_number b c.args.root) c.blocks-2.ensures c.in-Some.ensures))
