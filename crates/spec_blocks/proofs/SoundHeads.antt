-- The head of a block keeps a state sound.
use Rattle.std.proofs.Common.{◌≡◌, ◌≢◌, ◌∙◌, ℕ, ◌+◌, ◌-◌, ◌/◌, ◌%◌, ◌<◌, ◌≤◌, List, [], ◌++◌, slice_set, refl, sym, ap, arith, inl, inr}
use Rattle.hash_tree.specs.Merkle.{uint_to_bytes}
use Rattle.std.proofs.lemmas.Bool.{cases_lt}
use Rattle.std.proofs.lemmas.List.{get_or-set_other}
use Rattle.std.proofs.Math.Nat.{div-add-mod, mul-le-mul_left}
use Rattle.hash_tree.specs.Merkle.{hash}
use Rattle.bc_preset.specs.laws.Bounds.{HasPresetBounds}
use Rattle.beacon_types.specs.declared.block_header.BeaconBlockHeader.{BeaconBlockHeader}
use Rattle.beacon_types.specs.declared.eth1_data.Eth1Data.{Eth1Data}
use Rattle.committees.specs.Seeds.{seed_from}
use Rattle.spec_state.specs.declared.plain.PlainState.{PlainState}
use Rattle.spec_state.specs.Constants.{domain_beacon_attester}
use Rattle.spec_state.specs.Accessors.{get_current_epoch, get_previous_epoch, get_active_validator_indices, get_seed, get_randao_mix}
use Rattle.spec_state.specs.Soundness.{IsSound}
use Rattle.spec_blocks.proofs.Sound.{still_sound, previous_below}

-- a sound state with the header of a block of its slot is sound
pub header_sound : (s : PlainState) (header : BeaconBlockHeader) → header.slot ≡ s.slot → IsSound s → IsSound (record s { latest_block_header = header })
unfolding get_current_epoch get_active_validator_indices get_randao_mix
header_sound s header same sound = still_sound s (record s { latest_block_header = header }) (record {
  epoch = refl;
  slot = omega arith;
  current = record { preset = refl; active = refl; seed = refl };
  previous = record { preset = refl; active = refl; seed = refl };
  validators = omega arith;
  balances = sound.balances;
  header = omega arith;
  previous_justified = refl;
  current_justified = refl;
  finalized = refl;
  previous_attestations = refl;
  current_attestations = refl;
}) sound

-- and with other data and votes of the deposit contract
pub eth1_sound : (s : PlainState) (votes : List Eth1Data) (data_voted : Eth1Data) → IsSound s → IsSound (record s { eth1_data_votes = votes; eth1_data = data_voted })
unfolding get_current_epoch get_active_validator_indices get_randao_mix
eth1_sound s votes data_voted sound = still_sound s (record s { eth1_data_votes = votes; eth1_data = data_voted }) (record {
  epoch = refl;
  slot = omega arith;
  current = record { preset = refl; active = refl; seed = refl };
  previous = record { preset = refl; active = refl; seed = refl };
  validators = omega arith;
  balances = sound.balances;
  header = sound.header;
  previous_justified = refl;
  current_justified = refl;
  finalized = refl;
  previous_attestations = refl;
  current_attestations = refl;
}) sound

-- no two numbers less than n apart have one remainder
pub apart : (n a b : ℕ) → a < b → b < a + n → a % n ≢ b % n
apart n a b less near same = elim (cases_lt (a / n) (b / n)) [
  | inl more ↦ omega (arith, mul-le-mul_left {m = a / n + 1} {n = b / n} n (omega arith), div-add-mod a n, div-add-mod b n)
  | inr most ↦ omega (arith, mul-le-mul_left {m = b / n} {n = a / n} n most, div-add-mod a n, div-add-mod b n)
]

-- the mix of an epoch, or of one of the two behind it, is none that its committees are shuffled by
pub other_place : (n e at : ℕ) → 64 ≤ n → at ≤ e → e ≤ at + 2 → e % n ≢ (at + n - 1 - 1) % n
other_place n e at many low high = apart n e (at + n - 1 - 1) (omega arith) (omega arith)

pub same_seed : (domain : List ℕ) (s : PlainState) (epoch written : ℕ) (mix : List ℕ) → HasPresetBounds s.preset → epoch ≤ written → written ≤ epoch + 2
    → get_seed (record s { randao_mixes = slice_set s.randao_mixes (written % s.preset.epochs_per_historical_vector) mix }) epoch domain ≡ get_seed s epoch domain
unfolding get_randao_mix seed_from
same_seed domain s epoch written mix bounds low high =
    let n : ℕ = s.preset.epochs_per_historical_vector in
    let place : ℕ → ℕ = λ (lookahead : ℕ). (epoch + n - lookahead - 1) % n in
    let taken : place s.preset.min_seed_lookahead ≡ place 1 = ap place bounds.min_seed_lookahead in
    let other : written % n ≢ place 1 = other_place n written epoch bounds.least_epochs_per_historical_vector low high in
    ap (λ (m : List ℕ). hash (domain ++ uint_to_bytes epoch ++ m))
    (get_or-set_other s.randao_mixes (written % n) (place s.preset.min_seed_lookahead) mix [] (λ same. other (sym same ∙ taken)))

same_epoch : (s : PlainState) (mixes : List (List ℕ)) → get_current_epoch (record s { randao_mixes = mixes }) ≡ get_current_epoch s
unfolding get_current_epoch
same_epoch s mixes = refl

-- a sound state with another mix of its epoch is sound
pub randao_sound : (s : PlainState) (mix : List ℕ) → HasPresetBounds s.preset → IsSound s → IsSound (record s { randao_mixes = slice_set s.randao_mixes (get_current_epoch s % s.preset.epochs_per_historical_vector) mix })
unfolding get_active_validator_indices
randao_sound s mix bounds sound = still_sound s (record s { randao_mixes = slice_set s.randao_mixes (get_current_epoch s % s.preset.epochs_per_historical_vector) mix }) (record {
  epoch = same_epoch s _;
  slot = omega arith;
  current = record { preset = refl; active = refl; seed = same_seed domain_beacon_attester s (get_current_epoch s) (get_current_epoch s) mix bounds (omega arith) (omega arith) };
  previous = record { preset = refl; active = refl; seed = let (below, above) = previous_below s in same_seed domain_beacon_attester s (get_previous_epoch s) (get_current_epoch s) mix bounds below (omega arith) };
  validators = omega arith;
  balances = sound.balances;
  header = sound.header;
  previous_justified = refl;
  current_justified = refl;
  finalized = refl;
  previous_attestations = refl;
  current_attestations = refl;
}) sound
