-- The genesis state of its fields.
use Rattle.std.proofs.Common.{◌≡◌, ◌∙◌, ℕ, false, List, [], map, replicate, ap}
use Rattle.std.specs.List.{range_with_len}
use Rattle.ssz_codec.specs.Lists.{list_codec}
use Rattle.beacon_types.specs.declared.validator.Validator.{Validator}
use Rattle.beacon_types.specs.declared.eth1_data.Eth1Data.{Eth1Data}
use Rattle.beacon_types.specs.declared.pending_attestation.PendingAttestation.{PendingAttestation}
use Rattle.beacon_types.specs.Containers.{validator_codec}
use Rattle.beacon_types.specs.Blocks.{empty_body_root}
use Rattle.bc_preset.specs.declared.presets.Preset.{Preset}
use Rattle.spec_state.specs.declared.plain.PlainState.{PlainState}
use Rattle.spec_state.specs.Genesis.{zero_root}
use Rattle.spec_drill.specs.Plan.{slot_digest}
use Rattle.spec_drill.specs.MakeGenesis.{made_validator, zero_eth1, zero_checkpoint, made_genesis}

-- the state with these fields, and all else as at genesis
abbrev pub with_fields : Preset → List ℕ → List ℕ → List (List ℕ) → List (List ℕ) → List Validator → List ℕ → List (List ℕ) → List ℕ
    → List (List ℕ) → List Eth1Data → List PendingAttestation → List PendingAttestation → PlainState
with_fields preset root body_root block_roots state_roots validators balances mixes slashings historical eth1_votes previous current = record {
  preset = preset;
  genesis_time = 1000;
  genesis_validators_root = root;
  slot = 0;
  fork = record { previous_version = replicate 4 0; current_version = replicate 4 0; epoch = 0 };
  latest_block_header = record { slot = 0; proposer_index = 0; parent_root = zero_root; state_root = zero_root; body_root = body_root };
  block_roots = block_roots;
  state_roots = state_roots;
  historical_roots = historical;
  eth1_data = zero_eth1;
  eth1_data_votes = eth1_votes;
  eth1_deposit_index = 0;
  validators = validators;
  balances = balances;
  randao_mixes = mixes;
  slashings = slashings;
  previous_epoch_attestations = previous;
  current_epoch_attestations = current;
  justification_bits = replicate 4 false;
  previous_justified_checkpoint = zero_checkpoint;
  current_justified_checkpoint = zero_checkpoint;
  finalized_checkpoint = zero_checkpoint;
}

fields_same : (preset : Preset) (root root2 : List ℕ) (body body2 : List ℕ) (blocks blocks2 : List (List ℕ)) (states states2 : List (List ℕ)) (validators validators2 : List Validator) (balances balances2 : List ℕ) (mixes mixes2 : List (List ℕ)) (slashings slashings2 : List ℕ) (historical historical2 : List (List ℕ)) (eth1_votes eth1_votes2 : List Eth1Data) (previous previous2 : List PendingAttestation) (current current2 : List PendingAttestation)
    → root ≡ root2 → body ≡ body2 → blocks ≡ blocks2 → states ≡ states2 → validators ≡ validators2 → balances ≡ balances2 → mixes ≡ mixes2 → slashings ≡ slashings2 → historical ≡ historical2 → eth1_votes ≡ eth1_votes2 → previous ≡ previous2 → current ≡ current2
    → with_fields preset root body blocks states validators balances mixes slashings historical eth1_votes previous current ≡ with_fields preset root2 body2 blocks2 states2 validators2 balances2 mixes2 slashings2 historical2 eth1_votes2 previous2 current2
fields_same preset root root2 body body2 blocks blocks2 states states2 validators validators2 balances balances2 mixes mixes2 slashings slashings2 historical historical2 eth1_votes eth1_votes2 previous previous2 current current2 h0 h1 h2 h3 h4 h5 h6 h7 h8 h9 h10 h11 =
    ap (λ (x : List ℕ). with_fields preset x body blocks states validators balances mixes slashings historical eth1_votes previous current) h0
    ∙ (ap (λ (x : List ℕ). with_fields preset root2 x blocks states validators balances mixes slashings historical eth1_votes previous current) h1
    ∙ (ap (λ (x : List (List ℕ)). with_fields preset root2 body2 x states validators balances mixes slashings historical eth1_votes previous current) h2
    ∙ (ap (λ (x : List (List ℕ)). with_fields preset root2 body2 blocks2 x validators balances mixes slashings historical eth1_votes previous current) h3
    ∙ (ap (λ (x : List Validator). with_fields preset root2 body2 blocks2 states2 x balances mixes slashings historical eth1_votes previous current) h4
    ∙ (ap (λ (x : List ℕ). with_fields preset root2 body2 blocks2 states2 validators2 x mixes slashings historical eth1_votes previous current) h5
    ∙ (ap (λ (x : List (List ℕ)). with_fields preset root2 body2 blocks2 states2 validators2 balances2 x slashings historical eth1_votes previous current) h6
    ∙ (ap (λ (x : List ℕ). with_fields preset root2 body2 blocks2 states2 validators2 balances2 mixes2 x historical eth1_votes previous current) h7
    ∙ (ap (λ (x : List (List ℕ)). with_fields preset root2 body2 blocks2 states2 validators2 balances2 mixes2 slashings2 x eth1_votes previous current) h8
    ∙ (ap (λ (x : List Eth1Data). with_fields preset root2 body2 blocks2 states2 validators2 balances2 mixes2 slashings2 historical2 x previous current) h9
    ∙ (ap (λ (x : List PendingAttestation). with_fields preset root2 body2 blocks2 states2 validators2 balances2 mixes2 slashings2 historical2 eth1_votes2 x current) h10
    ∙ (ap (λ (x : List PendingAttestation). with_fields preset root2 body2 blocks2 states2 validators2 balances2 mixes2 slashings2 historical2 eth1_votes2 previous2 x) h11)))))))))))

pub genesis_of_fields : (preset : Preset) (number : ℕ) (root : List ℕ) (body : List ℕ) (blocks : List (List ℕ)) (states : List (List ℕ)) (validators : List Validator) (balances : List ℕ) (mixes : List (List ℕ)) (slashings : List ℕ) (historical : List (List ℕ)) (eth1_votes : List Eth1Data) (previous : List PendingAttestation) (current : List PendingAttestation)
    → root ≡ (list_codec validator_codec preset.validator_registry_limit).hash_tree_root (map (made_validator number) (range_with_len 0 64))
    → body ≡ empty_body_root
    → blocks ≡ replicate preset.slots_per_historical_root zero_root
    → states ≡ replicate preset.slots_per_historical_root zero_root
    → validators ≡ map (made_validator number) (range_with_len 0 64)
    → balances ≡ replicate 64 32_000_000_000
    → mixes ≡ replicate preset.epochs_per_historical_vector (slot_digest number 0)
    → slashings ≡ replicate preset.epochs_per_slashings_vector 0
    → historical ≡ []
    → eth1_votes ≡ []
    → previous ≡ []
    → current ≡ []
    → with_fields preset root body blocks states validators balances mixes slashings historical eth1_votes previous current ≡ made_genesis preset number
unfolding made_genesis
genesis_of_fields preset number root body blocks states validators balances mixes slashings historical eth1_votes previous current h0 h1 h2 h3 h4 h5 h6 h7 h8 h9 h10 h11 =
    fields_same preset root _ body _ blocks _ states _ validators _ balances _ mixes _ slashings _ historical _ eth1_votes _ previous _ current _
    h0 h1 h2 h3 h4 h5 h6 h7 h8 h9 h10 h11
