-- A made chain has no more events than a record may have.
use Rattle.std.proofs.Common.{◌≡◌, ◌∙◌, ℕ, zero, suc, ◌+◌, ◌*◌, ◌≤◌, ◌<◌, Bool, true, false, List, [], ◌∷◌, ◌++◌, length, map, if◌then◌else◌, sym, ap, subst, inl, inr, arith}
use Rattle.std.proofs.lemmas.List.{length-append, length-map}
use Rattle.std.proofs.lemmas.List.FromFn.{length-map-range_with_len}
use Rattle.std.proofs.Math.Nat.{div-le_self}
use Rattle.bc_words.specs.Outcome.{Outcome, done, limited}
use Rattle.bc_words.specs.declared.stop.Limit.TheVariants.{Proposer}
use Rattle.bc_preset.proofs.Bounds.{preset_bounds}
use Rattle.beacon_types.specs.declared.attestation.Attestation.{Attestation}
use Rattle.spec_state.specs.declared.plain.PlainState.{PlainState}
use Rattle.spec_state.specs.Constants.{far_future_epoch}
use Rattle.spec_state.specs.Genesis.{header_root_of}
use Rattle.spec_state.specs.Misc.{compute_epoch_at_slot}
use Rattle.spec_state.specs.Accessors.{get_committee_count_per_slot}
use Rattle.spec_transition.specs.ProcessSlots.{process_slots}
use Rattle.spec_drill.specs.Plan.{Plan, IsPlan, last_slot, is_skipped}
use Rattle.spec_drill.specs.MakeGenesis.{genesis_of_plan}
use Rattle.spec_drill.specs.MakeVotes.{vote_of, votes_of}
use Rattle.spec_drill.specs.MakeBlock.{MadeBlock, make_block}
use Rattle.spec_drill.specs.Make.{MadeEvent, Made, before, then_made, opening, brought, made_from, made}
use Rattle.spec_drill.specs.Make as makes
use Rattle.spec_drill.specs.inside.Calm.{IsCalm}
use Rattle.spec_drill.proofs.Slots.{few_slots}
use Rattle.spec_drill.proofs.Block.{make_gives}
use Rattle.spec_drill.proofs.Committees.{count_is, committees_small}
use Rattle.spec_drill.proofs.Making.{GoesOn, at_next}
use Rattle.spec_drill.proofs.Genesis.{goes, last_slot_low}

-- a slot has at most two attestations
few_votes : (s : PlainState) (root : List ℕ) (slot : ℕ) → IsCalm 0 s → s.slot ≡ slot + 1 → length (votes_of s root slot) ≤ 2
unfolding votes_of
few_votes s root slot calm next =
    let low : compute_epoch_at_slot s.preset slot < far_future_epoch = let d = div-le_self slot s.preset.slots_per_epoch in let e = few_slots s.preset s.slot calm.preset calm.early in omega arith in
    let is = count_is s (compute_epoch_at_slot s.preset slot) calm.registry low in
    let most = (committees_small s.preset calm.preset).most in
    let e = length-map-range_with_len (vote_of s root slot) 0 (get_committee_count_per_slot s (compute_epoch_at_slot s.preset slot)) in
    omega arith

few_opening : (plan : Plan) (slot : ℕ) (votes : List Attestation) → length votes ≤ 2 → length (opening plan slot votes) ≤ 3
unfolding opening
few_opening plan slot votes few = let e = length-map votes makes.wire in omega arith

few_brought : (made : MadeBlock) (votes : List Attestation) → length votes ≤ 2 → length (brought made.block votes) ≤ 3
unfolding brought
few_brought made votes few = let e = length-map votes makes.carried in omega arith

few_before : (events later : List MadeEvent) (k m n : ℕ) → length events ≤ k → length later ≤ m → k + m ≤ n → length (events ++ later) ≤ n
few_before events later k m n h j le = let e = length-append events later in omega arith

few_either : (b : Bool) (x y : Made) (n : ℕ) → length x.events ≤ n → length y.events ≤ n → length (if b then x else y).events ≤ n
few_either true x y n h k = h
few_either false x y n h k = k

few_of : {A : Type 0} (o : Outcome A) (x : A) (next : A → Made) (n : ℕ) → o ≡ done x → length (next x).events ≤ n → length (then_made o next).events ≤ n
few_of o x next n e h = subst (λ o. length (then_made o next).events ≤ n) (sym e) h

few_limited : {A : Type 0} (o : Outcome A) (next : A → Made) (n : ℕ) → o ≡ limited Proposer → length (then_made o next).events ≤ n
few_limited o next n e = subst (λ o. length (then_made o next).events ≤ n) (sym e) (omega arith)

module _ (plan : Plan) (ok : IsPlan plan) where
  few_from : (count slot : ℕ) (state : PlainState) → GoesOn plan slot state → slot + count ≤ 32 * plan.config.preset.slots_per_epoch → length (made_from plan state slot count).events ≤ 6 * count
  unfolding made_from
  few_from zero slot state goes early = omega arith
  few_from (suc count) slot state goes early =
      let at = at_next plan ok slot state goes (omega arith) in
      let low = goes.low in
      let root : List ℕ = header_root_of state in
      let votes : List Attestation = votes_of at.value.state root slot in
      let few : length votes ≤ 2 = few_votes at.value.state root slot at.holds.calm at.holds.slot in
      few_of (process_slots state (slot + 1) plan.config) at.value _ (6 * suc count) at.is
      (few_before (opening plan (slot + 1) votes) _ 3 (6 * count + 3) (6 * suc count) (few_opening plan (slot + 1) votes few)
      (few_either (is_skipped plan (slot + 1)) _ _ (6 * count + 3)
      (let rest = few_from count (slot + 1) state (record { calm = goes.calm; low = omega arith; preset = goes.preset }) (omega arith) in omega arith)
      (elim (make_gives plan at.value.state root slot at.holds.calm at.holds.slot).either [
        | inl m ↦ few_of (make_block plan at.value.state root votes) m.value _ (6 * count + 3) m.is
            (few_before (brought m.value.block votes) _ 3 (6 * count) (6 * count + 3) (few_brought m.value votes few)
            (few_from count (slot + 1) m.value.state (record { calm = m.holds.calm; low = let e = m.holds.at in let s = at.holds.slot in omega arith; preset = m.holds.preset ∙ (at.holds.preset ∙ goes.preset) }) (omega arith)) (omega arith))
        | inr none ↦ few_limited (make_block plan at.value.state root votes) _ (6 * count + 3) none
      ])) (omega arith))

  -- all of them
  pub few_made : length (made plan).events ≤ 6144
  unfolding made genesis_of_plan
  few_made =
      let n = preset_bounds plan.config.preset ok.config.preset in
      let most = n.slots_per_epoch in
      let low = last_slot_low plan in
      let few = few_from (last_slot plan) 0 _ (goes plan ok) (omega arith) in
      omega arith
