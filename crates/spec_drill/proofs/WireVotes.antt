-- The votes of a made chain are accepted by a store that has the chain, from the wire and from a block.
use Rattle.std.proofs.Common.{◌≡◌, ◌∙◌, ◌⊎◌, ℕ, ◌+◌, ◌-◌, ◌*◌, ◌/◌, ◌%◌, ◌<◌, ◌≤◌, ◌^◌, Bool, true, false, ◌==◌, ◌||◌, not, leb, nat_lt, List, [], ◌∷◌, length, Some, if◌then◌else◌, refl, sym, ap, subst, inl, inr, arith}
use Rattle.spec_drill.specs.MakeVotes.{source_for, vote_of}
use Rattle.spec_blocks.specs.Gives.{Gives}
use Rattle.spec_drill.specs.inside.Calm.{IsAt, IsFullRegistry, IsCalm}
use Rattle.spec_drill.specs.inside.OnChain.{root_at, IsCalmBlock, HasChain, IsLinked, stands_on}
use Rattle.std.specs.List.{AllByRecursion}
use Rattle.std.proofs.lemmas.Bool.{false≢true, lt-ltb, le-leb, ltb-true, eq-eqb, not-false}
use Rattle.std.proofs.Math.Nat.{div-add-mod, mod-lt, mul_comm, div-le_self, mul-le-mul_left}
use Rattle.ssz_codec.specs.Basic.{bytes32}
use Rattle.bc_words.specs.Outcome.{done}
use Rattle.bc_words.specs.declared.refusal.Refusal.TheVariants.{FcTargetTime, FcSlotEpoch, FcTargetUnknown, FcBlockUnknown, FcBlockAfter, FcTargetChain, FcTooEarly, FcCommittee, FcBitsShort, FcEmpty}
use Rattle.bc_preset.specs.declared.presets.Preset.{Preset}
use Rattle.bc_preset.specs.declared.configuration.ConfigValues.{ConfigValues}
use Rattle.bc_preset.specs.laws.Bounds.{HasPresetBounds}
use Rattle.bc_preset.proofs.Bounds.{preset_bounds}
use Rattle.beacon_types.specs.Equality.{same_root}
use Rattle.beacon_types.specs.declared.attestation.Attestation.{Attestation}
use Rattle.spec_state.specs.declared.plain.PlainState.{PlainState}
use Rattle.spec_state.specs.Constants.{far_future_epoch}
use Rattle.spec_state.specs.Misc.{compute_epoch_at_slot}
use Rattle.spec_state.specs.Accessors.{get_current_epoch, get_previous_epoch, get_committee_count_per_slot, get_beacon_committee, get_attesting_indices, get_block_root}
use Rattle.spec_blocks.specs.Checks.{check}
use Rattle.committees.specs.Committees.{committee_count_per_slot}
use Rattle.spec_transition.specs.ProcessSlots.{process_slots}
use Rattle.spec_fork_choice.specs.Store.{KeptBlock, Store, block_of, is_kept, slot_of}
use Rattle.spec_fork_choice.specs.Slots.{get_current_slot, start_slot_of}
use Rattle.spec_fork_choice.specs.GetAncestor.{get_ancestor}
use Rattle.spec_fork_choice.specs.StoreTargetCheckpointState.{kept_or, state_at, store_target_checkpoint_state}
use Rattle.spec_fork_choice.specs.ValidateOnAttestation.{validate_on_attestation, check_time, validate_target_epoch_against_current_time}
use Rattle.spec_fork_choice.specs.UpdateLatestMessages.{update_latest_messages}
use Rattle.spec_fork_choice.specs.OnAttestation.{committee_number, check_target_committee, on_attestation}
use Rattle.spec_blocks.proofs.Gives.{gives_done, gives_then, gives_if, gives_is, is_gives, check_gives}
use Rattle.spec_drill.proofs.Slots.{next_place, few_slots, slots_give}
use Rattle.spec_drill.proofs.Committees.{committee_size, count_is, size_is, committees_small, length_replicate, all_members}
use Rattle.spec_drill.proofs.Block.{root_is_same}
use Rattle.spec_drill.proofs.Voting.{not_zero}
use Rattle.spec_state.proofs.Digests.{replicate_fits}
use Rattle.spec_drill.proofs.Written.{IsSmallVote, data_within}
use Rattle.beacon_types.specs.declared.checkpoint.Checkpoint.{Checkpoint}
use Rattle.spec_epochs.specs.WeighJustificationAndFinalization.{justification_of}
use Rattle.spec_drill.proofs.Walks.{IsThere, there, found_is_kept, ancestor_is, found_slot}
use Rattle.spec_drill.proofs.Stores.{KeepsTime, votes_keep}

-- a state of a chain, taken on behind the slot whose votes are made
pub record IsReady (config : ConfigValues) (k : KeptBlock) (chain : List KeptBlock) (slot : ℕ) (at : PlainState) : Type 0 where
  pub calm : IsCalm 0 at
  pub next : at.slot ≡ slot + 1
  pub preset : at.preset ≡ config.preset
  pub linked : IsLinked (stands_on (k ∷ chain)) k.root at
  pub low : k.block.slot ≤ slot

-- a store that has the chain, at that slot
pub record IsHeard (config : ConfigValues) (k : KeptBlock) (chain : List KeptBlock) (slot : ℕ) (store : Store) : Type 0 where
  pub has : HasChain config (k ∷ chain) store
  pub now : get_current_slot store ≡ slot + 1

either_one : (x y : Bool) → (x ≡ true) ⊎ (y ≡ true) → (x || y) ≡ true
either_one true y e = refl
either_one false y (inl e) = absurd (false≢true e)
either_one false y (inr e) = e

module _ (config : ConfigValues) (k : KeptBlock) (chain : List KeptBlock) (slot : ℕ) (at : PlainState) (ready : IsReady config k chain slot at) (ejection : config.ejection_balance < 32_000_000_000) where
  abbrev n : ℕ
  n = config.preset.slots_per_epoch

  abbrev epoch : ℕ
  epoch = compute_epoch_at_slot at.preset slot

  bounds : HasPresetBounds at.preset
  bounds = preset_bounds at.preset ready.calm.preset

  same_epoch : epoch ≡ slot / n
  same_epoch = ap (λ (p : Preset). slot / p.slots_per_epoch) ready.preset

  early : slot < 1024
  early = let a = few_slots at.preset at.slot ready.calm.preset ready.calm.early in let e = ready.next in omega arith

  low_epoch : epoch < far_future_epoch
  low_epoch = let d = div-le_self slot at.preset.slots_per_epoch in let e = early in omega arith

  -- the first slot of the epoch isn't behind the slot, and not far before it
  record IsFirst : Type 0 where
    low : epoch * n ≤ slot
    near : slot ≤ epoch * n + 63

  first : IsFirst
  first =
      let parts : n * (slot / n) + slot % n ≡ slot = div-add-mod slot n in
      let size : at.preset.slots_per_epoch ≡ n = ap (λ (p : Preset). p.slots_per_epoch) ready.preset in
      let least = bounds.least_slots_per_epoch in
      let most = bounds.slots_per_epoch in
      let small : slot % n < n = mod-lt slot (omega arith) in
      let turned : epoch * n ≡ n * (slot / n) = ap (λ (e : ℕ). e * n) same_epoch ∙ mul_comm (slot / n) n in
      record { low = omega arith; near = omega arith }

  -- the target is the chain's block of the epoch
  target_is : get_block_root at epoch ≡ root_at (k ∷ chain) (epoch * n)
  unfolding get_block_root
  target_is =
      let next = ready.next in let f = first in let low = f.low in let near = f.near in
      let roots = bounds.least_slots_per_historical_root in
      let size : at.preset.slots_per_epoch ≡ n = ap (λ (p : Preset). p.slots_per_epoch) ready.preset in
      let turned : epoch * at.preset.slots_per_epoch ≡ epoch * n = ap (λ (m : ℕ). epoch * m) size in
      ready.linked.told.told (epoch * at.preset.slots_per_epoch) (omega arith) (omega arith) ∙ ap (root_at (k ∷ chain)) turned

  module _ (store : Store) (heard : IsHeard config k chain slot store) where
    abbrev Found : KeptBlock → Type 0
    Found j = (block_of store.blocks j.root ≡ Some j) × IsCalmBlock config j

    both : (ks : List KeptBlock) → AllByRecursion (λ j. block_of store.blocks j.root ≡ Some j) ks → AllByRecursion (IsCalmBlock config) ks → AllByRecursion Found ks
    both [] a b = tt
    both (j ∷ ks) a b = ((a.0, b.0), both ks a.1 b.1)

    target : IsThere Found (k ∷ chain) (epoch * n)
    target = there Found (k ∷ chain) (epoch * n) heard.has.joined (both (k ∷ chain) heard.has.found heard.has.calm)

    target_root : get_block_root at epoch ≡ target.kept.root
    target_root = target_is ∙ target.root

    preset_is : store.config.preset ≡ config.preset
    preset_is = ap (λ (c : ConfigValues). c.preset) heard.has.config_is

    start_is : (index : ℕ) → start_slot_of store (vote_of at k.root slot index).content.target ≡ epoch * n
    unfolding vote_of
    start_is index = ap (λ (p : Preset). epoch * p.slots_per_epoch) preset_is

    -- the checks of the vote
    time_holds : (index : ℕ) (is_from_block : Bool) → check_time store (vote_of at k.root slot index) is_from_block ≡ done tt
    unfolding check_time vote_of validate_target_epoch_against_current_time
    time_holds index true = refl
    time_holds index false =
        let current : ℕ = compute_epoch_at_slot store.config.preset (get_current_slot store) in
        let current_is : current ≡ (slot + 1) / at.preset.slots_per_epoch = ap (λ (p : Preset). get_current_slot store / p.slots_per_epoch) (preset_is ∙ sym ready.preset) ∙ ap (λ (s : ℕ). s / at.preset.slots_per_epoch) heard.now in
        check_gives _ FcTargetTime (either_one (epoch == current) (epoch == current - 1) (elim (next_place at.preset slot ready.calm.preset) [
          | inl within ↦ inl (eq-eqb _ _ (let e = within.epoch in omega arith))
          | inr begins ↦ inr (eq-eqb _ _ (let e = begins.epoch in omega arith))
        ]))

    valid : (index : ℕ) (is_from_block : Bool) → validate_on_attestation store (vote_of at k.root slot index) is_from_block ≡ done tt
    unfolding validate_on_attestation vote_of
    valid index is_from_block =
        let now = heard.now in
        let top : block_of store.blocks k.root ≡ Some k = heard.has.found.0 in
        let top_slot = found_slot store.blocks k top in
        let top_low = ready.low in
        let known : is_kept store.blocks (get_block_root at epoch) ≡ true = ap (is_kept store.blocks) target_root ∙ found_is_kept store.blocks target.kept target.holds.0 in
        let on_chain : get_ancestor store k.root (start_slot_of store (vote_of at k.root slot index).content.target) ≡ get_block_root at epoch = ap (get_ancestor store k.root) (start_is index) ∙ (ancestor_is config store k chain (epoch * n) heard.has ∙ sym target_is) in
        gives_is tt _
        (gives_then (λ u. u ≡ tt) (λ u. u ≡ tt) (check_time store (vote_of at k.root slot index) is_from_block) _ (is_gives tt _ (time_holds index is_from_block)) (λ u h.
        gives_then (λ u. u ≡ tt) (λ u. u ≡ tt) (check (epoch == compute_epoch_at_slot store.config.preset slot) FcSlotEpoch) _ (is_gives tt _ (check_gives _ FcSlotEpoch (eq-eqb _ _ (ap (λ (p : Preset). slot / p.slots_per_epoch) (ready.preset ∙ sym preset_is))))) (λ u h.
        gives_then (λ u. u ≡ tt) (λ u. u ≡ tt) (check (is_kept store.blocks (get_block_root at epoch)) FcTargetUnknown) _ (is_gives tt _ (check_gives _ FcTargetUnknown known)) (λ u h.
        gives_then (λ u. u ≡ tt) (λ u. u ≡ tt) (check (is_kept store.blocks k.root) FcBlockUnknown) _ (is_gives tt _ (check_gives _ FcBlockUnknown (found_is_kept store.blocks k top))) (λ u h.
        gives_then (λ u. u ≡ tt) (λ u. u ≡ tt) (check (leb (slot_of store.blocks k.root) slot) FcBlockAfter) _ (is_gives tt _ (check_gives _ FcBlockAfter (le-leb _ _ (omega arith)))) (λ u h.
        gives_then (λ u. u ≡ tt) (λ u. u ≡ tt) (check (same_root (get_ancestor store k.root (start_slot_of store (vote_of at k.root slot index).content.target)) (get_block_root at epoch)) FcTargetChain) _ (is_gives tt _ (check_gives _ FcTargetChain (root_is_same _ _ on_chain))) (λ u h.
        is_gives tt _ (check_gives _ FcTooEarly (lt-ltb _ _ (omega arith))))))))))

    source_small : (c : Checkpoint) → c.epoch ≤ get_previous_epoch at → c.epoch < 2 ^ 64
    unfolding get_previous_epoch get_current_epoch
    source_small c low = let d = div-le_self at.slot at.preset.slots_per_epoch in let e = early in let n = ready.next in omega arith

    both_small : (b : Bool) (c d : Checkpoint) → c.epoch < 2 ^ 64 → bytes32.Within c.root → d.epoch < 2 ^ 64 → bytes32.Within d.root → ((if b then c else d).epoch < 2 ^ 64) × bytes32.Within (if b then c else d).root
    both_small true c d cl cr dl dr = (cl, cr)
    both_small false c d cl cr dl dr = (dl, dr)

    -- the vote has a writing
    pub vote_small : (index : ℕ) → index < get_committee_count_per_slot at epoch → IsSmallVote (vote_of at k.root slot index)
    unfolding vote_of source_for justification_of
    vote_small index less =
        let size = size_is at slot index ready.calm.registry low_epoch in
        let small = (committees_small at.preset ready.calm.preset).few (slot % at.preset.slots_per_epoch * committee_count_per_slot at.preset 64 + index) in
        let many = length_replicate (length (get_beacon_committee at slot index)) true in
        let most = (committees_small at.preset ready.calm.preset).most in
        let count = count_is at epoch ready.calm.registry low_epoch in
        let low = early in
        let sound = ready.calm.sound in
        let current = ready.linked.checkpoints.current in
        let previous = ready.linked.checkpoints.previous in
        let source = both_small (epoch == get_current_epoch at) at.current_justified_checkpoint at.previous_justified_checkpoint (source_small at.current_justified_checkpoint sound.current_justified) current.root (source_small at.previous_justified_checkpoint sound.previous_justified) previous.root in
        let root_within : bytes32.Within (get_block_root at epoch) = subst bytes32.Within (sym target_root) target.holds.1.root in
        let d = div-le_self slot at.preset.slots_per_epoch in
        record {
          bits = omega arith;
          content = data_within (vote_of at k.root slot index).content (omega arith) (omega arith) heard.has.calm.0.root source.0 source.1 (omega arith) root_within;
          signature = (refl, replicate_fits 96 0 (omega arith));
        }

    -- the target's state: full as ever, and of the preset
    record IsFullOf (s : PlainState) : Type 0 where
      full : IsFullRegistry s
      of : s.preset ≡ at.preset

    state_gives : Gives IsFullOf (state_at store target.kept.state (start_slot_of store (vote_of at k.root slot 0).content.target))
    unfolding state_at
    state_gives =
        let s : PlainState = target.kept.state in
        let h = target.holds.1 in
        let start : ℕ = start_slot_of store (vote_of at k.root slot 0).content.target in
        let is = start_is 0 in let f = first.low in let next = ready.next in
        let of : s.preset ≡ at.preset = h.preset ∙ sym ready.preset in
        let size : s.preset.slots_per_epoch ≡ at.preset.slots_per_epoch = ap (λ (p : Preset). p.slots_per_epoch) of in
        let at_early = ready.calm.early in
        gives_if IsFullOf (not (nat_lt s.slot start)) (done s) _ (λ here. gives_done IsFullOf s (record { full = h.calm.registry; of = of })) (λ later.
        gives_then (IsAt start s.preset) IsFullOf (process_slots s start store.config) _
        (slots_give store.config s start (subst (λ (c : ConfigValues). c.ejection_balance < 32_000_000_000) (sym heard.has.config_is) ejection) h.calm (ltb-true s.slot start (not-false _ later)) (subst (λ (m : ℕ). start ≤ 32 * m) (sym size) (omega arith))) (λ x x_at.
        gives_done IsFullOf x.state (record { full = x_at.calm.registry; of = x_at.preset ∙ of })))

    target_gives : (index : ℕ) → Gives IsFullOf (store_target_checkpoint_state store (vote_of at k.root slot index).content.target)
    unfolding store_target_checkpoint_state kept_or vote_of
    target_gives index =
        let found : kept_or FcTargetUnknown (block_of store.blocks (get_block_root at epoch)) ≡ done target.kept = ap (λ (r : List ℕ). kept_or FcTargetUnknown (block_of store.blocks r)) target_root ∙ ap (kept_or FcTargetUnknown) target.holds.0 in
        gives_then (λ j. j ≡ target.kept) IsFullOf (kept_or FcTargetUnknown (block_of store.blocks (get_block_root at epoch))) _ (is_gives target.kept _ found) (λ j j_is.
        subst (λ (j : KeptBlock). Gives IsFullOf (state_at store j.state (start_slot_of store (vote_of at k.root slot 0).content.target))) (sym j_is) state_gives)

    -- its committee
    module _ (s : PlainState) (f : IsFullOf s) (index : ℕ) (less : index < get_committee_count_per_slot at epoch) where
      s_low : compute_epoch_at_slot s.preset slot < far_future_epoch
      s_low = subst (λ (p : Preset). slot / p.slots_per_epoch < far_future_epoch) (sym f.of) low_epoch

      bits_many : length (vote_of at k.root slot index).aggregation_bits ≡ length (get_beacon_committee s slot index)
      unfolding vote_of
      bits_many =
          length_replicate (length (get_beacon_committee at slot index)) true
          ∙ (size_is at slot index ready.calm.registry low_epoch
          ∙ (ap (λ (p : Preset). committee_size p (slot % p.slots_per_epoch * committee_count_per_slot p 64 + index)) (sym f.of)
          ∙ sym (size_is s slot index f.full s_low)))

      numbered : committee_number s (vote_of at k.root slot index).content < get_committee_count_per_slot s epoch * s.preset.slots_per_epoch
      unfolding committee_number vote_of
      numbered =
          let m : ℕ = s.preset.slots_per_epoch in
          let c : ℕ = get_committee_count_per_slot s epoch in
          let same : c ≡ get_committee_count_per_slot at epoch = count_is s epoch f.full low_epoch ∙ (ap (λ (p : Preset). committee_count_per_slot p 64) f.of ∙ sym (count_is at epoch ready.calm.registry low_epoch)) in
          let some : 0 < m = subst (λ (p : Preset). 0 < p.slots_per_epoch) (sym f.of) (let l = bounds.least_slots_per_epoch in omega arith) in
          let place : slot % m < m = mod-lt slot some in
          omega (arith, mul-le-mul_left {m = slot % m + 1} {n = m} c (omega arith))

      committee_holds : check_target_committee s (vote_of at k.root slot index) ≡ done tt
      unfolding check_target_committee vote_of
      committee_holds =
          let many = bits_many in
          gives_is tt _
          (gives_then (λ u. u ≡ tt) (λ u. u ≡ tt) (check (nat_lt (committee_number s (vote_of at k.root slot index).content) (get_committee_count_per_slot s epoch * s.preset.slots_per_epoch)) FcCommittee) _ (is_gives tt _ (check_gives _ FcCommittee (lt-ltb _ _ numbered))) (λ u h.
          is_gives tt _ (check_gives _ FcBitsShort (le-leb _ _ (omega arith)))))

      somebody : not (length (get_attesting_indices s (vote_of at k.root slot index).content (vote_of at k.root slot index).aggregation_bits) == 0) ≡ true
      unfolding get_attesting_indices vote_of
      somebody =
          let committee = get_beacon_committee s slot index in
          let many : length (get_beacon_committee at slot index) ≡ length committee = sym (length_replicate (length (get_beacon_committee at slot index)) true) ∙ bits_many in
          let all = all_members committee (length (get_beacon_committee at slot index)) (omega arith) in
          let some = (committees_small at.preset ready.calm.preset).some (slot % at.preset.slots_per_epoch * committee_count_per_slot at.preset 64 + index) in
          let size = size_is at slot index ready.calm.registry low_epoch in
          ap (λ (ms : List ℕ). not (length ms == 0)) all ∙ not_zero (length committee) (omega arith)

    -- on_attestation
    pub heard_gives : (index : ℕ) (is_from_block : Bool) → index < get_committee_count_per_slot at epoch → Gives (KeepsTime store) (on_attestation store (vote_of at k.root slot index) is_from_block)
    unfolding on_attestation
    heard_gives index is_from_block less =
        let vote : Attestation = vote_of at k.root slot index in
        gives_then (λ u. u ≡ tt) (KeepsTime store) (validate_on_attestation store vote is_from_block) _ (is_gives tt _ (valid index is_from_block)) (λ u h.
        gives_then IsFullOf (KeepsTime store) (store_target_checkpoint_state store vote.content.target) _ (target_gives index) (λ s f.
        gives_then (λ u. u ≡ tt) (KeepsTime store) (check_target_committee s vote) _ (is_gives tt _ (committee_holds s f index less)) (λ u h.
        gives_then (λ u. u ≡ tt) (KeepsTime store) (check (not (length (get_attesting_indices s vote.content vote.aggregation_bits) == 0)) FcEmpty) _ (is_gives tt _ (check_gives _ FcEmpty (somebody s f index less))) (λ u h.
        gives_done (KeepsTime store) (update_latest_messages store (get_attesting_indices s vote.content vote.aggregation_bits) vote) (votes_keep store (get_attesting_indices s vote.content vote.aggregation_bits) vote)))))
