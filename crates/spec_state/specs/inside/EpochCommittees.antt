-- The committees of an epoch as contracts name them: what a state's caller works out once and hands on.
use Rattle.std.specs.Prelude.{ℕ}
use Rattle.committees.specs.Committees.{Committees, committees_of}
use Rattle.spec_state.specs.declared.plain.PlainState.{PlainState}
use Rattle.spec_state.specs.Constants.{domain_beacon_attester}
use Rattle.spec_state.specs.Accessors.{get_active_validator_indices, get_seed}

-- all committees of an epoch, in order of slot and index: committee_at gives get_beacon_committee of each slot and index
abbrev pub epoch_committees : PlainState → ℕ → Committees
epoch_committees state epoch = committees_of state.preset (get_seed state epoch domain_beacon_attester) (get_active_validator_indices state epoch)
