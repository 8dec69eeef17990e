-- process_eth1_data (beacon-chain.md, "Eth1 data").
use Rattle.std.specs.Prelude.{ℕ, ◌*◌, List, count_by, nat_lt, if◌then◌else◌}
use Rattle.bc_words.specs.Outcome.{Outcome, done, ◌>>=◌, checked_push}
use Rattle.beacon_types.specs.declared.eth1_data.Eth1Data.{Eth1Data}
use Rattle.beacon_types.specs.declared.body.BeaconBlockBody.{BeaconBlockBody}
use Rattle.spec_state.specs.declared.plain.PlainState.{PlainState}
use Rattle.spec_state.specs.States.{votes_limit}
pub use Rattle.beacon_types.specs.Equality.{same_eth1_data}

-- how many of the votes are the same
unfoldable pub count_votes : List Eth1Data → Eth1Data → ℕ
count_votes votes eth1_data = count_by (λ vote. same_eth1_data vote eth1_data) votes

-- process_eth1_data(state, body): the vote is appended, and has won where more than half of a period's votes are the same
unfoldable pub process_eth1_data : PlainState → BeaconBlockBody → Outcome PlainState
process_eth1_data state body = do
  votes ← checked_push (votes_limit state.preset) state.eth1_data_votes body.eth1_data
  let with_vote = record state { eth1_data_votes = votes }
  if nat_lt (votes_limit state.preset) (count_votes votes body.eth1_data * 2) then done (record with_vote { eth1_data = body.eth1_data }) else done with_vote
