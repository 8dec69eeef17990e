-- What each part of epoch processing behind justification leaves as it was, so that a state stays sound within the epoch.
use Rattle.std.proofs.Common.{◌≡◌, ◌∙◌, ℕ, ◌+◌, ◌≤◌, length, refl, sym, ap, subst, arith}
use Rattle.bc_preset.specs.declared.presets.Preset.{Preset}
use Rattle.beacon_types.specs.declared.block_header.BeaconBlockHeader.{BeaconBlockHeader}
use Rattle.spec_state.specs.declared.plain.PlainState.{PlainState}
use Rattle.spec_state.specs.Misc.{compute_epoch_at_slot}
use Rattle.spec_state.specs.Accessors.{get_current_epoch, get_previous_epoch}
use Rattle.spec_state.specs.Soundness.{IsSoundTo, IsSoundWithinEpoch}
use Rattle.spec_blocks.proofs.Sound.{SameCommittees, Keeps, previous_below, sound_stays}

-- The preset, the slot, the header, the checkpoints, the pending attestations, how many validators there are, and the
-- committees of the current and the previous epoch
pub record Leaves (s t : PlainState) : Type 0 where
  pub preset : t.preset ≡ s.preset
  pub slot : t.slot ≡ s.slot
  pub header : t.latest_block_header ≡ s.latest_block_header
  pub validators : length t.validators ≡ length s.validators
  pub balances : length s.balances ≡ length s.validators → length t.balances ≡ length t.validators
  pub previous_justified : t.previous_justified_checkpoint ≡ s.previous_justified_checkpoint
  pub current_justified : t.current_justified_checkpoint ≡ s.current_justified_checkpoint
  pub finalized : t.finalized_checkpoint ≡ s.finalized_checkpoint
  pub previous_attestations : t.previous_epoch_attestations ≡ s.previous_epoch_attestations
  pub current_attestations : t.current_epoch_attestations ≡ s.current_epoch_attestations
  pub committees : (epoch : ℕ) → epoch ≤ get_current_epoch s → get_current_epoch s ≤ epoch + 1 → SameCommittees s t epoch

-- states of one preset and slot are of one epoch
pub epoch_of : (s t : PlainState) → t.preset ≡ s.preset → t.slot ≡ s.slot → get_current_epoch t ≡ get_current_epoch s
unfolding get_current_epoch
epoch_of s t preset slot = ap (λ (p : Preset). compute_epoch_at_slot p t.slot) preset ∙ ap (compute_epoch_at_slot s.preset) slot

pub same_epoch : (s t : PlainState) → Leaves s t → get_current_epoch t ≡ get_current_epoch s
same_epoch s t leaves = epoch_of s t leaves.preset leaves.slot

-- nothing done
pub leaves_all : (s : PlainState) → Leaves s s
leaves_all s = record {
  preset = refl;
  slot = refl;
  header = refl;
  validators = refl;
  balances = λ paired. paired;
  previous_justified = refl;
  current_justified = refl;
  finalized = refl;
  previous_attestations = refl;
  current_attestations = refl;
  committees = λ epoch low high. record { preset = refl; active = refl; seed = refl };
}

-- one part after another
pub leaves_both : (s t u : PlainState) → Leaves s t → Leaves t u → Leaves s u
leaves_both s t u first next =
    let same = same_epoch s t first in
    record {
      preset = next.preset ∙ first.preset;
      slot = next.slot ∙ first.slot;
      header = next.header ∙ first.header;
      validators = next.validators ∙ first.validators;
      balances = λ paired. next.balances (first.balances paired);
      previous_justified = next.previous_justified ∙ first.previous_justified;
      current_justified = next.current_justified ∙ first.current_justified;
      finalized = next.finalized ∙ first.finalized;
      previous_attestations = next.previous_attestations ∙ first.previous_attestations;
      current_attestations = next.current_attestations ∙ first.current_attestations;
      committees = λ epoch low high.
          let one = first.committees epoch low high in
          let other = next.committees epoch (omega arith) (omega arith) in
          record { preset = other.preset ∙ one.preset; active = other.active ∙ one.active; seed = other.seed ∙ one.seed };
    }

keeps_of : (justified : ℕ) (s t : PlainState) → Leaves s t → IsSoundTo justified s → Keeps s t
keeps_of justified s t leaves sound = record {
  epoch = same_epoch s t leaves;
  slot = let same = leaves.slot in omega arith;
  current = leaves.committees (get_current_epoch s) (omega arith) (omega arith);
  previous = leaves.committees (get_previous_epoch s) (previous_below s).0 (previous_below s).1;
  validators = let same = leaves.validators in omega arith;
  balances = leaves.balances sound.balances;
  header = let same = leaves.slot in let head = ap (λ (h : BeaconBlockHeader). h.slot) leaves.header in omega (arith, sound.header);
  previous_justified = leaves.previous_justified;
  current_justified = leaves.current_justified;
  finalized = leaves.finalized;
  previous_attestations = leaves.previous_attestations;
  current_attestations = leaves.current_attestations;
}

-- a state that is sound within the epoch stays so
pub within_stays : (s t : PlainState) → Leaves s t → IsSoundWithinEpoch s → IsSoundWithinEpoch t
within_stays s t leaves sound =
    subst (λ (e : ℕ). IsSoundTo e t) (sym (same_epoch s t leaves)) (sound_stays (get_current_epoch s) s t (keeps_of (get_current_epoch s) s t leaves sound) sound)
