-- What loops over members and over attestations have still to note.
use Rattle.std.proofs.Common.{◌≡◌, ℕ, ◌+◌, ◌<◌, ◌≤◌, Bool, true, false, List, Some, None, length, drop, get_or, set, slice_get, refl, sym, ap, ◌∙◌}
use Rattle.std.proofs.lemmas.List.{drop_all}
use Rattle.beacon_types.specs.declared.pending_attestation.PendingAttestation.{PendingAttestation}
use Rattle.spec_state.specs.declared.plain.PlainState.{PlainState}
use Rattle.spec_state.specs.Accessors.{get_attesting_indices, members_with_bits}
use Rattle.epoch_rewards.specs.declared.table.Shown.{Shown}
use Rattle.epoch_rewards.specs.inside.Statuses.{shown_by}
use Rattle.epoch_rewards.specs.inside.Notes.{noted_each, all_noted}
use Rattle.epoch_rewards.proofs.Members.{members_from, opens, past_bits, next}
use Rattle.epoch_rewards.proofs.Places.{drop_at_item, drop_at_nothing}

pub members_begin : (members : List ℕ) (bits : List Bool) → members_from members bits 0 ≡ members_with_bits members bits
unfolding members_from
members_begin members bits = refl

module _ {P : Type 0} (blank : P) (noting : P → Shown → P) (places : List P) where
  -- ---- a loop over the members of a committee

  module _ (members : List ℕ) (bits : List Bool) (position : ℕ) (shown : Shown) where
    pub member_noted : position < length members → Some true ≡ slice_get bits position → noted_each blank noting places (members_from members bits position) shown ≡ noted_each blank noting (set places (get_or members position 0) (noting (get_or places (get_or members position 0) blank) shown)) (members_from members bits (position + 1)) shown
    unfolding members_from noted_each
    member_noted less e =
        ap (λ ms. noted_each blank noting places ms shown) (opens members bits position true less e)
        ∙ ap (λ n. noted_each blank noting (set places (get_or members position 0) (noting (get_or places (get_or members position 0) blank) shown)) (members_from members bits n) shown) (next position)

    pub member_left : position < length members → Some false ≡ slice_get bits position → noted_each blank noting places (members_from members bits position) shown ≡ noted_each blank noting places (members_from members bits (position + 1)) shown
    unfolding members_from
    member_left less e = ap (λ ms. noted_each blank noting places ms shown) (opens members bits position false less e) ∙ ap (λ n. noted_each blank noting places (members_from members bits n) shown) (next position)

    pub bits_over : None ≡ slice_get bits position → noted_each blank noting places (members_from members bits position) shown ≡ places
    unfolding members_from noted_each
    bits_over e = ap (λ ms. noted_each blank noting places ms shown) (past_bits members bits position e)

    pub members_over : length members ≤ position → noted_each blank noting places (members_from members bits position) shown ≡ places
    unfolding members_from noted_each members_with_bits
    members_over over = ap (λ ms. noted_each blank noting places (members_with_bits ms (drop position bits)) shown) (drop_all position members over)

  -- ---- a loop over the attestations

  module _ (state : PlainState) (root : List ℕ) (attestations : List PendingAttestation) where
    pub one_noted : (i : ℕ) (a : PendingAttestation) (after : List P) → Some a ≡ slice_get attestations i → after ≡ noted_each blank noting places (get_attesting_indices state a.content a.aggregation_bits) (shown_by state root a) → all_noted blank noting state root after (drop (i + 1) attestations) ≡ all_noted blank noting state root places (drop i attestations)
    unfolding all_noted
    one_noted i a after at e = ap (λ ps. all_noted blank noting state root ps (drop (i + 1) attestations)) e ∙ ap (all_noted blank noting state root places) (sym (drop_at_item attestations i a at))

    pub none_noted : (i : ℕ) → None ≡ slice_get attestations i → all_noted blank noting state root places (drop (i + 1) attestations) ≡ all_noted blank noting state root places (drop i attestations)
    none_noted i e = ap (all_noted blank noting state root places) (sym (drop_at_nothing attestations i e))

    pub notes_begin : all_noted blank noting state root places (drop 0 attestations) ≡ all_noted blank noting state root places attestations
    notes_begin = refl

    pub notes_end : (i : ℕ) → length attestations ≤ i → all_noted blank noting state root places (drop i attestations) ≡ places
    unfolding all_noted
    notes_end i over = ap (all_noted blank noting state root places) (drop_all i attestations over)

-- what the loop over members needs
pub ruleset members_noted = (members_begin, member_noted, member_left, bits_over, members_over)
