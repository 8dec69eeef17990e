-- What the states of a chain say of its links: where the blocks of its epochs stand, who voted for them, and what that made of
-- justification. It holds where the validators stay as they were at genesis.
use Rattle.std.specs.Prelude.{◌≡◌, ℕ, ◌+◌, ◌-◌, ◌*◌, ◌<◌, ◌≤◌, false, List, length}
use Rattle.std.specs.List.{AllByRecursion}
use Rattle.beacon_types.specs.Equality.{same_root}
use Rattle.beacon_types.specs.declared.attestation_data.AttestationData.{AttestationData}
use Rattle.spec_state.specs.declared.plain.PlainState.{PlainState}
use Rattle.spec_state.specs.Genesis.{block_header_of, header_root_of, zero_root}
use Rattle.spec_state.specs.Accessors.{get_current_epoch, get_active_validator_indices, get_block_root_at_slot}
use Rattle.spec_epochs.specs.WeighJustificationAndFinalization.{justification_of}
use Rattle.spec_transition.specs.ProcessSlots.{Stepped}
use Rattle.ffg_law.specs.declared.link.Link.{Link}
use Rattle.ffg_law.specs.Links.{IsOneOf, link_of}
use Rattle.ffg_law.specs.Histories.{EpochEnd, IsHistory, last_from, nothing_justified, previous_link, current_link}
use Rattle.vote_law.specs.Backed.{Votes, IsBacked}
use Rattle.spec_forensics.specs.Steady.{genesis_weights, IsSteadyAt}

-- A chain as its slots: a root stands at a slot where it is that of the latest block there
abbrev pub Places : Type 1
Places = ℕ → List ℕ → Type 0

-- the chain with these roots, one for each slot
abbrev pub AreAt : (ℕ → List ℕ) → Places
AreAt roots = λ (slot : ℕ) (root : List ℕ). root ≡ roots slot

-- what stands at slots below a limit stands there in another chain
abbrev pub Keeps : Places → Places → ℕ → Type 0
Keeps stands others limit = (slot : ℕ) (root : List ℕ) → slot < limit → stands slot root → others slot root

-- A validator that is active at genesis cast a carried vote for a link
pub record HasVoted (genesis : PlainState) (votes : Votes) (link : Link) (validator : ℕ) : Type 0 where
  pub voted : AttestationData
  pub attesters : List ℕ
  pub carried : votes voted attesters
  pub attests : IsOneOf validator attesters
  pub votes_for : link_of voted ≡ link
  pub active : IsOneOf validator (get_active_validator_indices genesis 0)

-- The end of an epoch from 2 on that begins below a limit, whose blocks stand at the beginnings of its epochs, and whose attesters
-- voted for its links
pub record IsGoodEnd (genesis : PlainState) (votes : Votes) (stands : Places) (limit : ℕ) (x : EpochEnd) : Type 0 where
  pub late : 1 < x.epoch
  pub low : x.epoch * genesis.preset.slots_per_epoch < limit
  pub previous_root : stands ((x.epoch - 1) * genesis.preset.slots_per_epoch) x.previous_root
  pub current_root : stands (x.epoch * genesis.preset.slots_per_epoch) x.current_root
  pub previous_voters : (i : ℕ) → IsOneOf i x.previous → HasVoted genesis votes (previous_link x).link i
  pub current_voters : (i : ℕ) → IsOneOf i x.current → HasVoted genesis votes (current_link x).link i

-- The justification of a state is what a history of such ends made, one for each epoch from 2 on that is over
pub record IsRun (genesis : PlainState) (votes : Votes) (stands : Places) (state : PlainState) : Type 0 where
  pub ends : List EpochEnd
  pub history : IsHistory genesis.preset.effective_balance_increment (genesis_weights genesis) ends
  pub last : last_from nothing_justified ends ≡ justification_of state
  pub count : length ends ≡ get_current_epoch state - 2
  pub good : AllByRecursion (IsGoodEnd genesis votes stands state.slot) ends

-- The latest block roots of a state tell which block stands at each slot below an end
pub record IsTold (stands : Places) (end : ℕ) (state : PlainState) : Type 0 where
  pub roots : length state.block_roots ≡ state.preset.slots_per_historical_root
  pub told : (slot : ℕ) → slot < end → end ≤ slot + state.preset.slots_per_historical_root → stands slot (get_block_root_at_slot state slot)

-- A state on the way from the block of a root, with the states on which epoch processing was entered: its attestations are backed,
-- its block roots tell the chain, its latest block is that block, and where all that were entered are steady, its justification is
-- such a run
pub record Goes (genesis : PlainState) (votes : Votes) (stands : Places) (root : List ℕ) (x : Stepped) : Type 0 where
  pub backed : IsBacked votes x.state
  pub told : IsTold stands x.state.slot x.state
  pub header : header_root_of x.state ≡ root
  pub filled : same_root (block_header_of x.state).state_root zero_root ≡ false
  pub preset : x.state.preset ≡ genesis.preset
  pub run : AllByRecursion (IsSteadyAt genesis) x.entered → IsRun genesis votes stands x.state
