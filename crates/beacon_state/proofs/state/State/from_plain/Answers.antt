-- The lists are those that were read.
use Rattle.std.proofs.Common.{arith, rules}
use Rattle.std.proofs.lemmas.Grind.{common_steps}
use Rattle.beacon_state.proofs.state.State.from_plain.Goals as goal

pub returns : goal.returns
returns c = grind (arith, common_steps)

pub of-requires : goal.of-requires
of-requires c = record {
  state = grind (arith, common_steps);
  block_roots_limit = search rules;
  state_roots_limit = search rules;
  historical_roots_limit = search rules;
  eth1_data_votes_limit = search rules;
  balances_limit = search rules;
  randao_mixes_limit = search rules;
  slashings_limit = search rules;
  previous_epoch_attestations_limit = search rules;
  current_epoch_attestations_limit = search rules;
  kept_root = search rules;
  active_lists = search rules;
  kept_committees = search rules;
}
