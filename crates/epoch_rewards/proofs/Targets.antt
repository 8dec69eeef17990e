-- One pass that keeps the target alone makes the column of targets of the table that keeps all.
use Rattle.std.proofs.Common.{◌≡◌, ℕ, zero, suc, false, List, [], ◌∷◌, length, map, replicate, get_or, set, refl, sym, ap, ◌∙◌}
use Rattle.std.proofs.Math.ListN.{get_or-map}
use Rattle.std.proofs.lemmas.List.{map-set}
use Rattle.beacon_types.specs.declared.pending_attestation.PendingAttestation.{PendingAttestation}
use Rattle.spec_state.specs.declared.plain.PlainState.{PlainState}
use Rattle.spec_state.specs.Accessors.{get_block_root}
use Rattle.spec_epochs.specs.Helpers.{get_matching_source_attestations}
use Rattle.epoch_rewards.specs.declared.matching.Vote.TheVariants.{Target}
use Rattle.epoch_rewards.specs.declared.table.Status.{Status}
use Rattle.epoch_rewards.specs.declared.table.Shown.{Shown}
use Rattle.epoch_rewards.specs.inside.Statuses.{statuses_of, has_vote, flags_of, absent, shown_by, noted, target_noted}
use Rattle.epoch_rewards.specs.inside.Inclusions.{attesters_of}
use Rattle.epoch_rewards.specs.inside.Notes.{noted_each, all_noted}
use Rattle.epoch_rewards.proofs.Statuses.{statuses_are, nobody_attested}

-- the targets of a table in which one more is noted
target_set : (statuses : List Status) (index : ℕ) (shown : Shown)
    → flags_of Target (set statuses index (noted (get_or statuses index absent) shown)) ≡ set (flags_of Target statuses) index (target_noted (get_or (flags_of Target statuses) index false) shown)
unfolding flags_of has_vote absent noted target_noted
target_set statuses index shown =
    map-set (has_vote Target) statuses index (noted (get_or statuses index absent) shown)
    ∙ ap (λ flag. set (map (has_vote Target) statuses) index (target_noted flag shown)) (sym (get_or-map (has_vote Target) statuses index absent))

targets_each : (statuses : List Status) (indices : List ℕ) (shown : Shown)
    → flags_of Target (noted_each absent noted statuses indices shown) ≡ noted_each false target_noted (flags_of Target statuses) indices shown
unfolding noted_each
targets_each statuses [] shown = refl
targets_each statuses (index ∷ indices) shown =
    targets_each (set statuses index (noted (get_or statuses index absent) shown)) indices shown
    ∙ ap (λ flags. noted_each false target_noted flags indices shown) (target_set statuses index shown)

targets_noted : (state : PlainState) (root : List ℕ) (statuses : List Status) (attestations : List PendingAttestation)
    → flags_of Target (all_noted absent noted state root statuses attestations) ≡ all_noted false target_noted state root (flags_of Target statuses) attestations
unfolding all_noted
targets_noted state root statuses [] = refl
targets_noted state root statuses (a ∷ attestations) =
    targets_noted state root (noted_each absent noted statuses (attesters_of state a) (shown_by state root a)) attestations
    ∙ ap (λ flags. all_noted false target_noted state root flags attestations) (targets_each statuses (attesters_of state a) (shown_by state root a))

targets_absent : (count : ℕ) → flags_of Target (replicate count absent) ≡ replicate count false
unfolding flags_of has_vote absent
targets_absent zero = refl
targets_absent (suc count) = ap (λ flags. false ∷ flags) (targets_absent count)

pub targets_are : (state : PlainState) (epoch : ℕ) (root : List ℕ) → root ≡ get_block_root state epoch
    → all_noted false target_noted state root (replicate (length state.validators) false) (get_matching_source_attestations state epoch) ≡ flags_of Target (statuses_of state epoch)
targets_are state epoch root is =
    let attestations = get_matching_source_attestations state epoch in
    ap (λ flags. all_noted false target_noted state root flags attestations) (sym (targets_absent (length state.validators)))
    ∙ sym (targets_noted state root (replicate (length state.validators) absent) attestations)
    ∙ ap (flags_of Target) (statuses_are state epoch root is)

-- where an epoch has no attestation nobody has the target right
pub no_targets : (state : PlainState) (epoch : ℕ) → length (get_matching_source_attestations state epoch) ≡ 0 → replicate (length state.validators) false ≡ flags_of Target (statuses_of state epoch)
no_targets state epoch none = sym (targets_absent (length state.validators)) ∙ ap (flags_of Target) (nobody_attested state epoch none)
