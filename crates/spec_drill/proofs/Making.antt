-- The events of a made chain are accepted one after the other, and only the proposer's limit ends it.
use Rattle.std.proofs.Common.{◌≡◌, ◌∙◌, ℕ, zero, suc, ◌+◌, ◌-◌, ◌*◌, ◌/◌, ◌<◌, ◌≤◌, ◌^◌, Bool, true, false, List, [], ◌∷◌, ◌++◌, length, map, Some, if◌then◌else◌, refl, sym, ap, subst, inl, inr, arith}
use Rattle.spec_drill.specs.Plan.{Plan, IsPlan, is_skipped}
use Rattle.spec_drill.specs.MakeVotes.{vote_of, votes_of}
use Rattle.spec_drill.specs.MakeBlock.{make_block}
use Rattle.spec_drill.specs.Make.{EndsWell, MadeEvent, Made, before, then_made, time_of, opening, brought, made_from}
use Rattle.spec_drill.specs.Taken.{Takes}
use Rattle.spec_blocks.specs.Gives.{Gives}
use Rattle.spec_drill.specs.inside.Calm.{IsAt, IsCalm}
use Rattle.spec_drill.specs.inside.OnChain.{root_at, IsCalmBlock, HasChain, IsLinked, stands_on, IsOnChain}
use Rattle.spec_drill.specs.inside.Handled.{handled, IsWritable, AreTaken}
use Rattle.std.specs.List.{AllByRecursion, range_with_len}
use Rattle.std.proofs.Math.Nat.{mul-div_left, mul-le-mul_left, mul_comm, div-le_self}
use Rattle.ssz_codec.specs.Basic.{bytes32}
use Rattle.bc_words.specs.Outcome.{Outcome, done, limited}
use Rattle.bc_words.specs.Events.{EventOutcome, accepted, on_the_way}
use Rattle.bc_words.specs.declared.stop.Limit.TheVariants.{Proposer}
use Rattle.bc_preset.specs.declared.presets.Preset.{Preset}
use Rattle.bc_preset.specs.declared.configuration.ConfigValues.{ConfigValues}
use Rattle.bc_preset.proofs.Bounds.{preset_bounds}
use Rattle.beacon_types.specs.declared.checkpoint.Checkpoint.{Checkpoint}
use Rattle.beacon_types.specs.declared.attestation.Attestation.{Attestation}
use Rattle.beacon_types.specs.Blocks.{block_codec, attestation_codec, signed_block_codec}
use Rattle.spec_state.specs.declared.plain.PlainState.{PlainState}
use Rattle.spec_state.specs.Genesis.{header_root_of}
use Rattle.spec_state.specs.Misc.{compute_epoch_at_slot}
use Rattle.spec_state.specs.Accessors.{get_committee_count_per_slot}
use Rattle.spec_transition.specs.ProcessSlots.{process_slots}
use Rattle.spec_fork_choice.specs.Store.{KeptBlock, Store, block_of}
use Rattle.spec_fork_choice.specs.Slots.{get_current_slot, get_slots_since_genesis}
use Rattle.spec_fork_choice.specs.OnTick.{on_tick}
use Rattle.spec_fork_choice.specs.OnAttestation.{on_attestation}
use Rattle.spec_fork_choice.specs.OnEvent.{Accepted, other, without_block}
use Rattle.spec_drill.specs.Make as makes
use Rattle.spec_drill.proofs.Slots.{slots_give, few_slots}
use Rattle.spec_drill.proofs.Block.{make_gives}
use Rattle.spec_drill.proofs.Linked.{slots_linked}
use Rattle.spec_drill.proofs.Walks.{root_here, there}
use Rattle.spec_drill.proofs.Committees.{count_is, committees_small}
use Rattle.spec_drill.proofs.Written.{IsSmallVote, AreSmallVotes, vote_within}
use Rattle.spec_state.specs.Constants.{far_future_epoch}
use Rattle.std.proofs.lemmas.List.FromFn.{length-map-range_with_len}
use Rattle.spec_drill.proofs.Stores.{Keeps, KeepsTime, IsTicked, tick_gives}
use Rattle.spec_drill.proofs.WireVotes.{IsReady, IsHeard, heard_gives, vote_small}
use Rattle.spec_drill.proofs.Blocks.{block_taken}

-- ---- the end

-- a state from which the chain goes on at a slot
pub record GoesOn (plan : Plan) (slot : ℕ) (state : PlainState) : Type 0 where
  pub calm : IsCalm 1 state
  pub low : state.slot ≤ slot
  pub preset : state.preset ≡ plan.config.preset

either_ends : (b : Bool) (x y : Made) → EndsWell x.end → EndsWell y.end → EndsWell (if b then x else y).end
either_ends true x y h k = h
either_ends false x y h k = k

ends_first : {A : Type 0} (o : Outcome A) (x : A) (next : A → Made) → o ≡ done x → EndsWell (next x).end → EndsWell (then_made o next).end
ends_first o x next e h = subst (λ o. EndsWell (then_made o next).end) (sym e) h

ends_limited : {A : Type 0} (o : Outcome A) (next : A → Made) → o ≡ limited Proposer → EndsWell (then_made o next).end
ends_limited o next e = subst (λ o. EndsWell (then_made o next).end) (sym e) (record { either = inr refl })

module _ (plan : Plan) (ok : IsPlan plan) where
  abbrev n : ℕ
  n = plan.config.preset.slots_per_epoch

  -- the state at the next slot
  pub at_next : (slot : ℕ) (state : PlainState) → GoesOn plan slot state → slot + 1 ≤ 32 * n → Gives (IsAt (slot + 1) state.preset) (process_slots state (slot + 1) plan.config)
  at_next slot state goes early =
      let low = goes.low in
      slots_give plan.config state (slot + 1) ok.ejection goes.calm (omega arith) (subst (λ (p : Preset). slot + 1 ≤ 32 * p.slots_per_epoch) (sym goes.preset) early)

  pub made_ends : (count slot : ℕ) (state : PlainState) → GoesOn plan slot state → slot + count ≤ 32 * n → EndsWell (made_from plan state slot count).end
  unfolding made_from
  made_ends zero slot state goes early = record { either = inl refl }
  made_ends (suc count) slot state goes early =
      let at = at_next slot state goes (omega arith) in
      let low = goes.low in
      let votes : List Attestation = votes_of at.value.state (header_root_of state) slot in
      ends_first (process_slots state (slot + 1) plan.config) at.value _ at.is
      (either_ends (is_skipped plan (slot + 1)) _ _
      (made_ends count (slot + 1) state (record { calm = goes.calm; low = omega arith; preset = goes.preset }) (omega arith))
      (elim (make_gives plan at.value.state (header_root_of state) slot at.holds.calm at.holds.slot).either [
        | inl m ↦ ends_first (make_block plan at.value.state (header_root_of state) votes) m.value _ m.is
            (made_ends count (slot + 1) m.value.state (record { calm = m.holds.calm; low = let e = m.holds.at in let s = at.holds.slot in omega arith; preset = m.holds.preset ∙ (at.holds.preset ∙ goes.preset) }) (omega arith))
        | inr none ↦ ends_limited (make_block plan at.value.state (header_root_of state) votes) _ none
      ]))

  -- ---- the events

  taken_done : (Q : Store → Type 0) (P : Store → Type 0) (o : Outcome Store) → Gives Q o → ((new : Store) → Q new → P new) → Takes (without_block o) P
  unfolding without_block
  taken_done Q P o g later = subst (λ (o : Outcome Store). Takes (on_the_way o (λ store. accepted (store, other))) P) (sym g.is) (later g.value g.holds)

  -- a store at a slot
  pub record IsDrilling (k : KeptBlock) (chain : List KeptBlock) (slot : ℕ) (store : Store) : Type 0 where
    pub on : IsOnChain plan.config k chain store
    pub time : store.time ≡ time_of plan slot

  chain_keeps : (k : KeptBlock) (chain : List KeptBlock) (s t : Store) → Keeps s t → IsOnChain plan.config k chain s → IsOnChain plan.config k chain t
  chain_keeps k chain s t keeps on = record {
    has = record { config_is = keeps.config ∙ on.has.config_is; few = subst (λ (bs : List KeptBlock). length (k ∷ chain) ≤ length bs) (sym keeps.blocks) on.has.few; found = subst (λ (bs : List KeptBlock). AllByRecursion (λ j. block_of bs j.root ≡ Some j) (k ∷ chain)) (sym keeps.blocks) on.has.found; joined = on.has.joined; calm = on.has.calm };
    only = λ r j e. on.only r j (ap (λ (bs : List KeptBlock). block_of bs r) (sym keeps.blocks) ∙ e);
    genesis_time = keeps.genesis_time ∙ on.genesis_time;
    finalized = subst (λ (c : Checkpoint). c.root ≡ root_at (k ∷ chain) (c.epoch * n)) (sym keeps.finalized) on.finalized;
    final_low = subst (λ (c : Checkpoint). c.epoch * n ≤ k.block.slot) (sym keeps.finalized) on.final_low;
    linked = on.linked;
  }

  -- the slot of a store's time
  slot_is : (k : KeptBlock) (chain : List KeptBlock) (slot : ℕ) (store : Store) → IsDrilling k chain slot store → get_current_slot store ≡ slot
  unfolding get_slots_since_genesis time_of
  slot_is k chain slot store d =
      let time = d.time in let genesis = d.on.genesis_time in
      let seconds : store.config.seconds_per_slot ≡ plan.config.seconds_per_slot = ap (λ (c : ConfigValues). c.seconds_per_slot) d.on.has.config_is in
      let apart : store.time - store.genesis_time ≡ slot * plan.config.seconds_per_slot = omega arith in
      ap (λ (t : ℕ). t / store.config.seconds_per_slot) apart ∙ (ap (λ (q : ℕ). slot * plan.config.seconds_per_slot / q) seconds ∙ mul-div_left slot (let l = ok.config.least_seconds_per_slot in omega arith))

  -- votes: each leaves the store as it has to be
  module _ (k : KeptBlock) (chain : List KeptBlock) (slot : ℕ) (at : PlainState) (ready : IsReady plan.config k chain slot at) (Q : Store → Type 0) (stays : (s t : Store) → KeepsTime s t → Q s → Q t) (hears : (s : Store) → Q s → IsHeard plan.config k chain slot s) (later : List MadeEvent) (rest : (s : Store) → Q s → AreTaken s later) where
    abbrev count_of : ℕ
    count_of = get_committee_count_per_slot at (compute_epoch_at_slot at.preset slot)

    votes_taken : (wrap : Attestation → MadeEvent) (is_from_block : Bool) → ((s : Store) (a : Attestation) → handled s (wrap a) ≡ without_block (on_attestation s a is_from_block)) → ((a : Attestation) → attestation_codec.Within a → IsWritable (wrap a)) → (start count : ℕ) (store : Store) → start + count ≤ count_of → Q store
        → AreTaken store (map wrap (map (vote_of at k.root slot) (range_with_len start count)) ++ later)
    unfolding AreTaken
    votes_taken wrap is_from_block is writes start zero store few q = rest store q
    votes_taken wrap is_from_block is writes start (suc count) store few q = (
      writes (vote_of at k.root slot start) (vote_within (vote_of at k.root slot start) (vote_small plan.config k chain slot at ready ok.ejection store (hears store q) start (omega arith))),
      subst (λ (o : EventOutcome (Store × Accepted)). Takes o (λ new. AreTaken new (map wrap (map (vote_of at k.root slot) (range_with_len (start + 1) count)) ++ later))) (sym (is store (vote_of at k.root slot start)))
          (taken_done (KeepsTime store) _ (on_attestation store (vote_of at k.root slot start) is_from_block) (heard_gives plan.config k chain slot at ready ok.ejection store (hears store q) start is_from_block (omega arith)) (λ new keeps.
          votes_taken wrap is_from_block is writes (start + 1) count new (omega arith) (stays store new keeps q))),
    )

    all_taken : (wrap : Attestation → MadeEvent) (is_from_block : Bool) → ((s : Store) (a : Attestation) → handled s (wrap a) ≡ without_block (on_attestation s a is_from_block)) → ((a : Attestation) → attestation_codec.Within a → IsWritable (wrap a)) → (store : Store) → Q store → AreTaken store (map wrap (votes_of at k.root slot) ++ later)
    unfolding votes_of
    all_taken wrap is_from_block is writes store q = votes_taken wrap is_from_block is writes 0 count_of store (omega arith) q

    small_from : (start count : ℕ) (store : Store) → start + count ≤ count_of → Q store → AllByRecursion IsSmallVote (map (vote_of at k.root slot) (range_with_len start count))
    small_from start zero store few q = tt
    small_from start (suc count) store few q = (vote_small plan.config k chain slot at ready ok.ejection store (hears store q) start (omega arith), small_from (start + 1) count store (omega arith) q)

    few_votes : count_of ≤ 2
    few_votes =
        let low : compute_epoch_at_slot at.preset slot < far_future_epoch = let d = div-le_self slot at.preset.slots_per_epoch in let e = few_slots at.preset at.slot ready.calm.preset ready.calm.early in let x = ready.next in omega arith in
        let is = count_is at (compute_epoch_at_slot at.preset slot) ready.calm.registry low in let most = (committees_small at.preset ready.calm.preset).most in omega arith

    votes_small : (store : Store) → Q store → AreSmallVotes (votes_of at k.root slot)
    unfolding votes_of
    votes_small store q = record { few = let e = length-map-range_with_len (vote_of at k.root slot) 0 count_of in let f = few_votes in omega arith; all = small_from 0 count_of store (omega arith) q }

  wire_is : (s : Store) (a : Attestation) → handled s (makes.wire a) ≡ without_block (on_attestation s a false)
  unfolding handled
  wire_is s a = refl

  carried_is : (s : Store) (a : Attestation) → handled s (makes.carried a) ≡ without_block (on_attestation s a true)
  unfolding handled
  carried_is s a = refl

  time_fits : (slot : ℕ) → slot ≤ 32 * n → time_of plan slot < 2 ^ 64
  unfolding time_of
  time_fits slot low =
      let few = few_slots plan.config.preset slot ok.config.preset low in
      let seconds = ok.config.seconds_per_slot in
      let h = mul-le-mul_left {m = slot} {n = 1024} plan.config.seconds_per_slot few in
      let a = mul_comm slot plan.config.seconds_per_slot in omega arith

  time_grows : (slot : ℕ) → time_of plan slot ≤ time_of plan (slot + 1)
  unfolding time_of
  time_grows slot = let h = mul-le-mul_left {m = slot} {n = slot + 1} plan.config.seconds_per_slot (omega arith) in let a = mul_comm slot plan.config.seconds_per_slot in let b = mul_comm (slot + 1) plan.config.seconds_per_slot in omega arith

  -- a tick to the next slot
  tick_taken : (k : KeptBlock) (chain : List KeptBlock) (slot : ℕ) (store : Store) (P : Store → Type 0) → IsDrilling k chain slot store → ((new : Store) → IsDrilling k chain (slot + 1) new → P new) → Takes (handled store (makes.tick (time_of plan (slot + 1)))) P
  unfolding handled
  tick_taken k chain slot store P d later =
      let grows = time_grows slot in let time = d.time in
      taken_done (IsTicked (time_of plan (slot + 1)) store) P (on_tick store (time_of plan (slot + 1))) (tick_gives store (time_of plan (slot + 1)) (omega arith)) (λ new t. later new (record { on = chain_keeps k chain store new t.keeps d.on; time = t.time_is }))

  taken_first : {A : Type 0} (store : Store) (o : Outcome A) (x : A) (next : A → Made) → o ≡ done x → AreTaken store (next x).events → AreTaken store (then_made o next).events
  taken_first store o x next e h = subst (λ o. AreTaken store (then_made o next).events) (sym e) h

  taken_limited : {A : Type 0} (store : Store) (o : Outcome A) (next : A → Made) → o ≡ limited Proposer → AreTaken store (then_made o next).events
  unfolding AreTaken
  taken_limited store o next e = subst (λ o. AreTaken store (then_made o next).events) (sym e) tt

  either_taken : (store : Store) (b : Bool) (x y : Made) → AreTaken store x.events → AreTaken store y.events → AreTaken store (if b then x else y).events
  either_taken store true x y h k = h
  either_taken store false x y h k = k

  shorter : (kept k : KeptBlock) (chain : List KeptBlock) (s : Store) → HasChain plan.config (kept ∷ k ∷ chain) s → HasChain plan.config (k ∷ chain) s
  shorter kept k chain s has = let few = has.few in record { config_is = has.config_is; few = omega arith; found = has.found.1; joined = has.joined.2; calm = has.calm.1 }

  chain_within : (config : ConfigValues) (ks : List KeptBlock) (s : Store) → HasChain config ks s → (t : ℕ) (r : List ℕ) → stands_on ks t r → bytes32.Within r
  chain_within config ks s has t r h =
      let j = there (IsCalmBlock config) ks t has.joined has.calm in
      subst bytes32.Within (sym (h ∙ j.root)) j.holds.root

  -- the events from a slot on
  pub made_taken : (count slot : ℕ) (k : KeptBlock) (chain : List KeptBlock) (store : Store) → IsDrilling k chain slot store → k.block.slot ≤ slot → slot + count ≤ 32 * n → AreTaken store (made_from plan k.state slot count).events
  unfolding made_from opening brought AreTaken
  made_taken zero slot k chain store d low early = tt
  made_taken (suc count) slot k chain store d low early =
      let kc = d.on.has.calm.0 in
      let k_slot = kc.slot in
      let goes : GoesOn plan slot k.state = record { calm = kc.calm; low = omega arith; preset = kc.preset } in
      let at = at_next slot k.state goes (omega arith) in
      let root_is : header_root_of k.state ≡ k.root = d.on.linked.header in
      let linked : IsLinked (stands_on (k ∷ chain)) k.root at.value.state = slots_linked (stands_on (k ∷ chain)) (chain_within plan.config (k ∷ chain) store d.on.has) k.root plan.config k.state (slot + 1) at.value at.is (preset_bounds k.state.preset kc.calm.preset) (λ t from less. sym (root_here k chain t (omega arith))) d.on.linked in
      let ready : IsReady plan.config k chain slot at.value.state = record { calm = at.holds.calm; next = at.holds.slot; preset = at.holds.preset ∙ kc.preset; linked = linked; low = low } in
      let votes : List Attestation = votes_of at.value.state (header_root_of k.state) slot in
      let hears : (s : Store) → IsDrilling k chain (slot + 1) s → IsHeard plan.config k chain slot s = λ s e. record { has = e.on.has; now = slot_is k chain (slot + 1) s e } in
      let Rest : Made = if is_skipped plan (slot + 1) then made_from plan k.state (slot + 1) count else then_made (make_block plan at.value.state (header_root_of k.state) votes) (λ made. before (brought made.block votes) (made_from plan made.state (slot + 1) count)) in
      taken_first store (process_slots k.state (slot + 1) plan.config) at.value _ at.is (
        time_fits (slot + 1) (omega arith),
        tick_taken k chain slot store (λ new. AreTaken new (map makes.wire votes ++ Rest.events)) d (λ ticked e.
            subst (λ (r : List ℕ). AreTaken ticked (map makes.wire (votes_of at.value.state r slot) ++ Rest.events)) (sym root_is)
            (all_taken k chain slot at.value.state ready (IsDrilling k chain (slot + 1)) (λ s t keeps q. record { on = chain_keeps k chain s t keeps.keeps q.on; time = keeps.time ∙ q.time }) hears Rest.events (λ s q.
            either_taken s (is_skipped plan (slot + 1)) _ _
            (made_taken count (slot + 1) k chain s q (omega arith) (omega arith))
            (elim (make_gives plan at.value.state k.root slot at.holds.calm at.holds.slot).either [
              | inl m ↦
                  let made_is : make_block plan at.value.state (header_root_of k.state) votes ≡ done m.value = ap (λ (r : List ℕ). make_block plan at.value.state r (votes_of at.value.state r slot)) root_is ∙ m.is in
                  let mh = m.holds in
                  let slots_is : process_slots k.state at.value.state.slot plan.config ≡ done at.value = ap (λ (t : ℕ). process_slots k.state t plan.config) at.holds.slot ∙ at.is in
                  let at_slot = at.holds.slot in
                  let now : get_current_slot s ≡ at.value.state.slot = slot_is k chain (slot + 1) s q ∙ sym at.holds.slot in
                  let kept : KeptBlock = record { root = block_codec.hash_tree_root m.value.block.message; block = m.value.block.message; state = m.value.state } in
                  let later_events : List MadeEvent = (made_from plan m.value.state (slot + 1) count).events in
                  let small : AreSmallVotes (votes_of at.value.state k.root slot) = votes_small k chain slot at.value.state ready (IsDrilling k chain (slot + 1)) (λ s t keeps q. record { on = chain_keeps k chain s t keeps.keeps q.on; time = keeps.time ∙ q.time }) hears [] (λ s q. tt) s q in
                  let written_block : signed_block_codec.Within m.value.block = mh.written d.on.has.calm.0.root small in
                  taken_first s (make_block plan at.value.state (header_root_of k.state) votes) m.value _ made_is (
                    written_block,
                    block_taken plan.config k chain s q.on at.value (votes_of at.value.state k.root slot) m.value slots_is mh (omega arith) linked (at.holds.preset ∙ kc.preset) at.holds.calm now (λ new. AreTaken new (map makes.carried votes ++ later_events)) (λ new on time.
                        subst (λ (r : List ℕ). AreTaken new (map makes.carried (votes_of at.value.state r slot) ++ later_events)) (sym root_is)
                        (all_taken k chain slot at.value.state ready (IsDrilling kept (k ∷ chain) (slot + 1)) (λ s t keeps q. record { on = chain_keeps kept (k ∷ chain) s t keeps.keeps q.on; time = keeps.time ∙ q.time })
                        (λ s e. record { has = shorter kept k chain s e.on.has; now = slot_is kept (k ∷ chain) (slot + 1) s e }) later_events (λ s e.
                        made_taken count (slot + 1) kept (k ∷ chain) s e (let a = mh.slot in omega arith) (omega arith)) makes.carried true carried_is (λ a h. h) new (record { on = on; time = time ∙ q.time }))),
                  )
              | inr none ↦ taken_limited s (make_block plan at.value.state (header_root_of k.state) votes) _ (ap (λ (r : List ℕ). make_block plan at.value.state r (votes_of at.value.state r slot)) root_is ∙ none)
            ])) makes.wire false wire_is (λ a h. h) ticked e)),
      )
