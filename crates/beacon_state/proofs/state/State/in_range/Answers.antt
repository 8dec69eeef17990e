use Rattle.std.proofs.Common.{rules, subst}
use Rattle.std.specs.List.{AllByRecursion}
use Rattle.beacon_state.proofs.state.State.in_range.Goals as goal

pub returns-clause-range : goal.returns-clause-range
returns-clause-range c = record {
  genesis_time = search rules;
  genesis_validators_root = rw (← c.genesis_validators_root.ensures) c.root_in_range.ensures;
  slot = search rules;
  fork = rw (← c.fork.ensures) c.fork_in_range.ensures;
  latest_block_header = rw (← c.latest_block_header.ensures) c.header_in_range.ensures;
  block_roots = subst (AllByRecursion _) c.block_roots.ensures.same c.len-block_roots.ensures.within;
  state_roots = subst (AllByRecursion _) c.state_roots.ensures.same c.len-state_roots.ensures.within;
  historical_roots = subst (AllByRecursion _) c.historical_roots.ensures.same c.len-historical_roots.ensures.within;
  eth1_data = rw (← c.eth1_data.ensures) c.eth1_data_in_range.ensures;
  eth1_data_votes = subst (AllByRecursion _) c.eth1_data_votes.ensures.same c.len-votes.ensures.within;
  eth1_deposit_index = search rules;
  validators = subst (AllByRecursion _) c.validators.ensures.same c.len-validators.ensures.within;
  balances = subst (AllByRecursion _) c.balances.ensures.same c.len-balances.ensures.within;
  randao_mixes = subst (AllByRecursion _) c.randao_mixes.ensures.same c.len-mixes.ensures.within;
  slashings = subst (AllByRecursion _) c.slashings.ensures.same c.len-slashings.ensures.within;
  previous_epoch_attestations = subst (AllByRecursion _) c.previous_epoch_attestations.ensures.same c.len-previous.ensures.within;
  current_epoch_attestations = subst (AllByRecursion _) c.current_epoch_attestations.ensures.same c.len-current.ensures.within;
  justification_bits = rw (← c.justification_bits.ensures) c.bits_in_range.ensures;
  previous_justified_checkpoint = rw (← c.previous_justified_checkpoint.ensures) c.checkpoint_in_range.ensures;
  current_justified_checkpoint = rw (← c.current_justified_checkpoint.ensures) c.checkpoint_in_range-2.ensures;
  finalized_checkpoint = rw (← c.finalized_checkpoint.ensures) c.checkpoint_in_range-3.ensures;
}
