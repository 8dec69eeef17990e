use Rattle.std.proofs.Common.{rules, leb}
use Rattle.std.proofs.lemmas.Fn.{filter_same}
use Rattle.fork_store.specs.inside.Kept.{CheckpointState}
use Rattle.fork_store.proofs.checkpoint_states.drop_before.Goals as goal

pub returns : goal.returns
returns c =
    filter_same _ (λ (k : CheckpointState). leb c.args.epoch k.checkpoint.epoch) _ (λ x b f' k. search rules) _ _ c.retain.ensures.filtered
