use Rattle.std.proofs.Common.{subst, sym}
use Rattle.spec_state.specs.Limits.{IsState, IsInRange}
use Rattle.spec_genesis.proofs.MadeState.{start_is_state, start_is_in_range}
use Rattle.genesis_maker.proofs.state_before_deposits.state_before_deposits.Goals as goal

pub from_plain-requires-clause-state : goal.from_plain-requires-clause-state
from_plain-requires-clause-state c = subst IsState (sym c.in_ok-plain.ensures) (start_is_state c.args.preset.now c.args.version c.args.eth1_block_hash c.args.time c.args.count c.requires.preset)

pub from_plain-requires-clause-range : goal.from_plain-requires-clause-range
from_plain-requires-clause-range c =
    subst IsInRange (sym c.in_ok-plain.ensures) (start_is_in_range c.args.preset.now c.args.version c.args.eth1_block_hash c.args.time c.args.count (record {
      version_within = c.given_in_range.ensures.version;
      time_fits = c.ranges.time.fits;
      hash_within = c.given_in_range.ensures.hash;
      few = c.requires.few;
    }))
