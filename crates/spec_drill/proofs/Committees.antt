-- The committees of a full registry: none is empty, and how many members one has hangs on its number alone.
use Rattle.std.proofs.Common.{◌≡◌, ◌∙◌, ℕ, zero, suc, ◌+◌, ◌-◌, ◌*◌, ◌%◌, ◌<◌, ◌≤◌, true, List, [], ◌∷◌, length, replicate, refl, sym, ap, subst, inl, inr, arith}
use Rattle.std.proofs.lemmas.List.FromFn.{length-map-range_with_len}
use Rattle.bc_preset.specs.Presets.{IsPreset, mainnet, minimal}
use Rattle.bc_preset.specs.declared.presets.Preset.{Preset}
use Rattle.committees.specs.Committees.{committee_count_per_slot, committee_start, compute_committee}
use Rattle.spec_state.specs.declared.plain.PlainState.{PlainState}
use Rattle.spec_state.specs.Constants.{far_future_epoch}
use Rattle.spec_state.specs.Misc.{compute_epoch_at_slot}
use Rattle.spec_state.specs.Accessors.{get_active_validator_indices, get_committee_count_per_slot, get_beacon_committee, members_with_bits}
use Rattle.spec_drill.specs.inside.Calm.{IsFullRegistry}
use Rattle.spec_drill.proofs.Registry.{all_active}

-- how many members the committee with a number has
pub committee_size : Preset → ℕ → ℕ
committee_size p k =
    let n : ℕ = committee_count_per_slot p 64 * p.slots_per_epoch in
    committee_start 64 n (k + 1) - committee_start 64 n k

size_of : (rounds : ℕ) (indices seed : List ℕ) (index count : ℕ) → length (compute_committee rounds indices seed index count) ≡ committee_start (length indices) count (index + 1) - committee_start (length indices) count index
unfolding compute_committee
size_of rounds indices seed index count = length-map-range_with_len _ (committee_start (length indices) count index) (committee_start (length indices) count (index + 1) - committee_start (length indices) count index)

pub count_is : (s : PlainState) (epoch : ℕ) → IsFullRegistry s → epoch < far_future_epoch → get_committee_count_per_slot s epoch ≡ committee_count_per_slot s.preset 64
unfolding get_committee_count_per_slot
count_is s epoch full low = ap (λ indices. committee_count_per_slot s.preset (length indices)) (all_active s epoch full low)

pub size_is : (s : PlainState) (slot index : ℕ) → IsFullRegistry s → compute_epoch_at_slot s.preset slot < far_future_epoch
    → length (get_beacon_committee s slot index) ≡ committee_size s.preset (slot % s.preset.slots_per_epoch * committee_count_per_slot s.preset 64 + index)
unfolding get_beacon_committee get_committee_count_per_slot committee_size
size_is s slot index full low =
    let epoch : ℕ = compute_epoch_at_slot s.preset slot in
    let size : List ℕ → ℕ = λ indices.
    let c : ℕ = committee_count_per_slot s.preset (length indices) in
    let k : ℕ = slot % s.preset.slots_per_epoch * c + index in
    committee_start (length indices) (c * s.preset.slots_per_epoch) (k + 1) - committee_start (length indices) (c * s.preset.slots_per_epoch) k in
    size_of _ (get_active_validator_indices s epoch) _ _ _ ∙ ap size (all_active s epoch full low)

-- one or two committees a slot, each of at least two members
pub record AreSmall (p : Preset) : Type 0 where
  pub least : 1 ≤ committee_count_per_slot p 64
  pub most : committee_count_per_slot p 64 ≤ 2
  pub some : (k : ℕ) → 0 < committee_size p k
  pub few : (k : ℕ) → committee_size p k ≤ 4

mainnet_small : AreSmall mainnet
unfolding committee_count_per_slot committee_size committee_start
mainnet_small = record { least = omega arith; most = omega arith; some = λ k. omega arith; few = λ k. omega arith }

minimal_small : AreSmall minimal
unfolding committee_count_per_slot committee_size committee_start
minimal_small = record { least = omega arith; most = omega arith; some = λ k. omega arith; few = λ k. omega arith }

pub committees_small : (p : Preset) → IsPreset p → AreSmall p
unfolding IsPreset
committees_small p (inl e) = subst AreSmall (sym e) mainnet_small
committees_small p (inr e) = subst AreSmall (sym e) minimal_small

-- all bits set
pub length_replicate : {A : Type 0} (n : ℕ) (x : A) → length (replicate n x) ≡ n
length_replicate zero x = refl
length_replicate (suc n) x = ap suc (length_replicate n x)

pub all_members : (committee : List ℕ) (n : ℕ) → length committee ≤ n → members_with_bits committee (replicate n true) ≡ committee
unfolding members_with_bits
all_members [] n few = refl
all_members (m ∷ committee) zero few = absurd (omega arith)
all_members (m ∷ committee) (suc n) few = ap (λ ms. m ∷ ms) (all_members committee n (omega arith))
