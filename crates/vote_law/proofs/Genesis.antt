-- Genesis says nothing of links yet, and so it begins what the states of a chain say.
use Rattle.std.proofs.Common.{◌≡◌, ◌∙◌, ℕ, ◌/◌, false, [], length, refl, sym, ap, subst, arith}
use Rattle.std.specs.List.{AllByRecursion}
use Rattle.std.proofs.Math.Nat.{div-eq_of_lt}
use Rattle.bc_preset.specs.laws.Bounds.{HasPresetBounds}
use Rattle.beacon_types.specs.Equality.{same_root}
use Rattle.spec_state.specs.declared.plain.PlainState.{PlainState}
use Rattle.spec_state.specs.Genesis.{header_root_of, zero_root}
use Rattle.spec_state.specs.States.{state_codec}
use Rattle.spec_state.specs.Accessors.{get_current_epoch, get_previous_epoch}
use Rattle.spec_epochs.specs.declared.justification.Justification.{Justification}
use Rattle.spec_epochs.specs.WeighJustificationAndFinalization.{justification_of}
use Rattle.spec_transition.proofs.HeaderChecks.{header_fills}
use Rattle.ffg_law.specs.Histories.{nothing_justified}
use Rattle.vote_law.specs.Backed.{Votes, IsBackedBy}
use Rattle.vote_law.specs.Runs.{Places, Goes}

same_justified : (s : PlainState) → justification_of s ≡ nothing_justified → s.previous_justified_checkpoint ≡ s.current_justified_checkpoint
unfolding justification_of
same_justified s nothing = ap (λ (j : Justification). j.previous) nothing ∙ sym (ap (λ (j : Justification). j.current) nothing)

first_epoch : (s : PlainState) → HasPresetBounds s.preset → s.slot ≡ 0 → get_current_epoch s ≡ 0
unfolding get_current_epoch
first_epoch s bounds at = ap (λ (slot : ℕ). slot / s.preset.slots_per_epoch) at ∙ div-eq_of_lt (omega (arith, bounds.least_slots_per_epoch))

pub genesis_goes : (genesis : PlainState) (votes : Votes) (stands : Places) → HasPresetBounds genesis.preset → genesis.slot ≡ 0 → length genesis.block_roots ≡ genesis.preset.slots_per_historical_root
    → justification_of genesis ≡ nothing_justified → genesis.previous_epoch_attestations ≡ [] → genesis.current_epoch_attestations ≡ [] → same_root ((state_codec genesis.preset).hash_tree_root genesis) zero_root ≡ false
    → Goes genesis votes stands (header_root_of genesis) (record { state = genesis; entered = [] })
genesis_goes genesis votes stands bounds at roots nothing previous current some =
    let epoch : get_current_epoch genesis ≡ 0 = first_epoch genesis bounds at in
    record {
      backed = record {
        current = subst (AllByRecursion (IsBackedBy votes genesis (get_current_epoch genesis) genesis.current_justified_checkpoint)) (sym current) tt;
        previous = subst (AllByRecursion (IsBackedBy votes genesis (get_previous_epoch genesis) genesis.previous_justified_checkpoint)) (sym previous) tt;
        early = λ low. same_justified genesis nothing;
      };
      told = record { roots = roots; told = λ slot less near. absurd (omega arith) };
      header = refl;
      filled = header_fills genesis some;
      preset = refl;
      run = λ steady. record { ends = []; history = tt; last = sym nothing; count = omega arith; good = tt };
    }
