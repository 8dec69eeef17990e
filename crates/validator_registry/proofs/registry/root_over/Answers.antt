-- The root of the tree, lifted, with the length.
use Rattle.validator_registry.proofs.RegistryRoots.{lifted_root, mixed_root}
use Rattle.validator_registry.proofs.registry.root_over.Goals as goal

pub returns-clause-root : goal.returns-clause-root
returns-clause-root g c =
    mixed_root _ c.lifted-top.result c.mix_step.result c.args.len (lifted_root _ c.args.tree.now c.args.depth c.top.result c.lifted-top.result c.requires.tree c.top.ensures c.lifted-top.ensures.lifts) c.requires.len c.mix_step.ensures.mixed
