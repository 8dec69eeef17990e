use Rattle.std.proofs.Common.{◌∙◌, None, sym, ap}
use Rattle.fork_store.specs.inside.Openings.{array_as_opened}
use Rattle.fork_store.proofs.Opened.{opened}
use Rattle.fork_store.proofs.Keepers.{keeper_same, first_keeper_of}
use Rattle.fork_store.proofs.get_forkchoice_store.first_parts.Goals as goal

pub first_array-requires : goal.first_array-requires
first_array-requires c = first_keeper_of c.args.config.now c.args.state.now c.args.block.now c.args.root c.in_ok-fields.fields c.args.keeper.now c.requires.root c.requires.stepper c.requires.keeper c.in_ok-fields.ensures

pub returns-clause-parts : goal.returns-clause-parts
returns-clause-parts c = record {
  whole = opened c.args.config.now c.args.state.now c.args.block.now c.args.root None
      c.requires.anchor c.requires.none (sym c.block_roots_len-roots.ensures.len ∙ c.block_roots_len-roots.ensures.limit) c.requires.preset c.requires.root
      c.in_ok-fields.fields c.in_ok-array.array c.in_ok-fields.ensures
      (c.in_ok-array.ensures.array ∙ ap (λ facts. array_as_opened c.in_ok-fields.fields c.args.block.now.slot c.args.root facts) c.facts_of-facts.ensures);
  keeper_of = keeper_same c.in_ok-fields.fields c.args.keeper.now c.first_array.new.keeper
      (first_keeper_of c.args.config.now c.args.state.now c.args.block.now c.args.root c.in_ok-fields.fields c.args.keeper.now c.requires.root c.requires.stepper c.requires.keeper c.in_ok-fields.ensures) c.first_array.ensures.same;
}
