-- What the answers of the state transition's calls say of a maker.
use Rattle.std.proofs.Common.{◌≡◌, ◌∙◌, ℕ, ◌+◌, ◌*◌, ◌<◌, ◌≤◌, Bool, true, false, List, [], ◌∷◌, map, Option, Some, None, Result, Ok, Err, IfOk, if◌then◌else◌, refl, sym, ap, subst, inl, inr, arith}
use Rattle.hash_tree.specs.Merkle.{uint_to_bytes}
use Rattle.bc_words.specs.Outcome.{Outcome, Stops, done, refused, limited}
use Rattle.bc_words.specs.declared.refusal.Refusal.{Refusal}
use Rattle.bc_words.specs.declared.stop.Limit.{Limit}
use Rattle.bc_words.specs.declared.stop.Limit.TheVariants.{Proposer}
use Rattle.bc_words.specs.declared.stop.NoMemory.{NoMemory}
use Rattle.bc_words.specs.declared.stop.Stop.{Stop}
use Rattle.bc_words.specs.declared.stop.Stop.TheVariants as stops
use Rattle.bc_preset.specs.declared.configuration.ConfigValues.{ConfigValues}
use Rattle.bc_preset.specs.declared.presets.Preset.{Preset}
use Rattle.bc_preset.proofs.Bounds.{preset_bounds}
use Rattle.beacon_types.specs.declared.attestation.Attestation.{Attestation}
use Rattle.beacon_types.specs.Blocks.{signed_block_codec}
use Rattle.spec_state.specs.declared.plain.PlainState.{PlainState}
use Rattle.spec_state.specs.Genesis.{header_root_of, genesis_fault}
use Rattle.spec_blocks.proofs.Done.{same_value}
use Rattle.spec_transition.specs.ProcessSlots.{Stepped, process_slots}
use Rattle.spec_transition.specs.StateTransition.{state_transition}
use Rattle.spec_fork_choice.specs.Store.{Store}
use Rattle.spec_fork_choice.specs.GetForkchoiceStore.{genesis_store}
use Rattle.spec_fork_choice.specs.OnEvent.{on_event, genesis_clash}
use Rattle.record_file.specs.declared.event.Event.{Event}
use Rattle.spec_drill.specs.Plan.{Plan, IsPlan, last_slot, is_skipped}
use Rattle.spec_drill.specs.MakeGenesis.{made_genesis, genesis_of_plan}
use Rattle.spec_drill.specs.MakeVotes.{votes_of}
use Rattle.spec_drill.specs.MakeBlock.{MadeBlock, make_block}
use Rattle.spec_drill.specs.Make.{MadeEvent, before, time_of, kind_of, payload_of}
use Rattle.spec_drill.specs.Make as makes
use Rattle.spec_drill.specs.Taken.{Takes, store_after}
use Rattle.spec_drill.specs.Maker.{Due, PlainMaker, to_come, new_maker, HasGiven}
use Rattle.spec_drill.specs.inside.Calm.{IsCalm}
use Rattle.spec_drill.specs.inside.Makers.{DueIs, IsMaker}
use Rattle.spec_drill.proofs.Block.{IsMade, made_is_taken, make_gives}
use Rattle.spec_drill.proofs.Proposer.{GivesOrLimit}
use Rattle.spec_drill.proofs.Genesis.{last_slot_low}
use Rattle.spec_drill.proofs.Maker.{next_is_accepted}
use Rattle.spec_drill.proofs.Slots.{slots_give}
use Rattle.spec_drill.proofs.Steps.{pending_next, nothing_next, slot_opens, opened, due_unless, block_comes, grown}
use Rattle.chain_maker.specs.Next.{NextIs, IsAcceptedBy}
use Rattle.chain_maker.specs.declared.votes.Votes.{Votes}
use Rattle.chain_maker.specs.inside.Votes.{pending_of, NextVote}
use Rattle.chain_maker.specs.inside.Standing.{due_of, IsReached, Gives, GivesVote}

-- the last slot is at most that of 32 epochs of 32 slots
pub last_low : (plan : Plan) → IsPlan plan → last_slot plan ≤ 1024
last_low plan ok =
    let bounds = preset_bounds plan.config.preset ok.config.preset in
    let few = bounds.slots_per_epoch in
    omega (arith, last_slot_low plan)

-- ---- the next slot

-- it is opened: its tick comes next
pub record IsOpened (maker : PlainMaker) (at : Stepped) : Type 0 where
  pub comes : to_come maker ≡ before (makes.tick (time_of maker.plan (maker.slot + 1)) ∷ []) (to_come (opened maker at.state))
  pub stands : IsMaker (opened maker at.state)
  pub calm : IsCalm 0 at.state

pub slots_done : (maker : PlainMaker) (at : Stepped) → IsMaker maker → maker.pending ≡ [] → maker.due ≡ None → maker.slot < last_slot maker.plan
    → process_slots maker.state (maker.slot + 1) maker.plan.config ≡ done at → IsOpened maker at
slots_done maker at is none no_due later e =
    let opens = slot_opens maker is none no_due later in
    let low = is.low in
    let most = last_slot_low maker.plan in
    let g = slots_give maker.plan.config maker.state (maker.slot + 1) is.ok.ejection is.calm (omega arith) (subst (λ (p : Preset). maker.slot + 1 ≤ 32 * p.slots_per_epoch) (sym is.preset) (omega arith)) in
    let calm : IsCalm 0 at.state = subst (λ (x : Stepped). IsCalm 0 x.state) (same_value g.value at (sym g.is ∙ e)) g.holds.calm in
    let comes = subst (λ (x : Stepped). to_come maker ≡ before (makes.tick (time_of maker.plan (maker.slot + 1)) ∷ []) (to_come (opened maker x.state))) (same_value opens.at at (sym opens.slots ∙ e)) opens.comes in
    let stands = subst (λ (x : Stepped). IsMaker (opened maker x.state)) (same_value opens.at at (sym opens.slots ∙ e)) opens.stands in
    record { comes = comes; stands = stands; calm = calm }

pub slots_not_refused : (maker : PlainMaker) (why : Refusal) → IsMaker maker → maker.pending ≡ [] → maker.due ≡ None → maker.slot < last_slot maker.plan
    → process_slots maker.state (maker.slot + 1) maker.plan.config ≡ refused why → ⊥
slots_not_refused maker why is none no_due later e = let h = (slot_opens maker is none no_due later).slots in absurd cc

pub slots_not_limited : (maker : PlainMaker) (bound : Limit) → IsMaker maker → maker.pending ≡ [] → maker.due ≡ None → maker.slot < last_slot maker.plan
    → process_slots maker.state (maker.slot + 1) maker.plan.config ≡ limited bound → ⊥
slots_not_limited maker bound is none no_due later e = let h = (slot_opens maker is none no_due later).slots in absurd cc

-- the block that is due where the slot isn't skipped
pub due_same : (skipped : Bool) (votes : List Attestation) (at : PlainState) → due_of votes (if skipped then None else Some at) ≡ due_unless skipped (record { at = at; votes = votes })
due_same true votes at = refl
due_same false votes at = refl

-- ---- the block

-- it is made: it comes next
pub record IsGrown (maker : PlainMaker) (due : Due) (made : MadeBlock) : Type 0 where
  pub comes : to_come maker ≡ before (makes.block made.block ∷ []) (to_come (grown maker due made))
  pub stands : IsMaker (grown maker due made)

pub block_done : (maker : PlainMaker) (due : Due) (made : MadeBlock) → IsMaker maker → maker.pending ≡ [] → maker.due ≡ Some due
    → make_block maker.plan due.at (header_root_of maker.state) due.votes ≡ done made → IsGrown maker due made
block_done maker due made is none due_is e = elim (block_comes maker due is none due_is) [
  | inl brings ↦ subst (IsGrown maker due) (same_value brings.made made (sym brings.is ∙ e)) (record { comes = brings.comes; stands = brings.stands })
  | inr stops ↦ absurd (let h = stops.is in cc)
]

pub block_not_refused : (maker : PlainMaker) (due : Due) (why : Refusal) → IsMaker maker → maker.pending ≡ [] → maker.due ≡ Some due
    → make_block maker.plan due.at (header_root_of maker.state) due.votes ≡ refused why → ⊥
block_not_refused maker due why is none due_is e = elim (block_comes maker due is none due_is) [
  | inl brings ↦ absurd (let h = brings.is in cc)
  | inr stops ↦ absurd (let h = stops.is in cc)
]

pub block_limited : (maker : PlainMaker) (due : Due) (bound : Limit) → IsMaker maker → maker.pending ≡ [] → maker.due ≡ Some due
    → make_block maker.plan due.at (header_root_of maker.state) due.votes ≡ limited bound
    → (bound ≡ Proposer) × (to_come maker ≡ record { events = []; end = limited bound })
block_limited maker due bound is none due_is e = elim (block_comes maker due is none due_is) [
  | inl brings ↦ absurd (let h = brings.is in cc)
  | inr stops ↦
      let same : Proposer ≡ bound = (let h = stops.is in cc) in
      (sym same, subst (λ (b : Limit). to_come maker ≡ record { events = []; end = limited b }) same stops.comes)
]

-- ---- the maker behind a step, and the event that it gives

-- behind a tick
pub opened_is : (maker : PlainMaker) (at : PlainState) (slot : ℕ) (votes : List Attestation) (due : Option PlainState) → slot ≡ maker.slot + 1
    → votes ≡ votes_of at (header_root_of maker.state) maker.slot → due ≡ (if is_skipped maker.plan (maker.slot + 1) then None else Some at)
    → record maker { slot = slot; pending = map makes.wire votes; due = due_of votes due } ≡ opened maker at
unfolding opened
opened_is maker at slot votes due slot_is votes_are due_is =
    let all : List Attestation = votes_of at (header_root_of maker.state) maker.slot in
    let with_votes : ℕ → List Attestation → Option PlainState → PlainMaker = λ slot votes due. record maker { slot = slot; pending = map makes.wire votes; due = due_of votes due } in
    ap (λ (slot : ℕ). with_votes slot votes due) slot_is
    ∙ ap (λ (votes : List Attestation). with_votes (maker.slot + 1) votes due) votes_are
    ∙ (ap (with_votes (maker.slot + 1) all) due_is
    ∙ ap (λ (due : Option Due). record maker { slot = maker.slot + 1; pending = map makes.wire all; due = due }) (due_same (is_skipped maker.plan (maker.slot + 1)) all at))

pub gives_tick : (maker new : PlainMaker) (at : Stepped) (payload : List ℕ) → IsOpened maker at → new ≡ opened maker at.state
    → payload ≡ uint_to_bytes (time_of maker.plan (maker.slot + 1)) → Gives (Ok (record { kind = 1; payload = payload })) maker new
unfolding kind_of payload_of
gives_tick maker new at payload opens same is =
    let tick : MadeEvent = makes.tick (time_of maker.plan (maker.slot + 1)) in
    (tick, record { kind = refl; payload = is }, opens.comes ∙ ap (λ (m : PlainMaker). before (tick ∷ []) (to_come m)) (sym same))

-- behind a block
pub gives_block : (maker new : PlainMaker) (due : Due) (made : MadeBlock) (payload : List ℕ) → IsGrown maker due made → new ≡ grown maker due made
    → payload ≡ signed_block_codec.serialize made.block → Gives (Ok (record { kind = 2; payload = payload })) maker new
unfolding kind_of payload_of
gives_block maker new due made payload grows same is =
    let block : MadeEvent = makes.block made.block in
    (block, record { kind = refl; payload = is }, grows.comes ∙ ap (λ (m : PlainMaker). before (block ∷ []) (to_come m)) (sym same))

-- ---- an event that is given is accepted, or clashes

pub accepted_next : (maker new : PlainMaker) (result : Result (Option Event) Stop) (given : List MadeEvent) (store : Store) → IsPlan maker.plan → NextIs result maker new
    → genesis_clash (genesis_of_plan maker.plan) ≡ None → HasGiven given maker
    → store_after (genesis_store maker.plan.config (genesis_of_plan maker.plan)) given ≡ Some store → IsAcceptedBy store result
accepted_next maker new (Ok (Some event)) given store ok next none has e =
    let taken = next_is_accepted maker given next.0 (to_come new) store ok none has next.2 e in
    subst (λ (payload : List ℕ). Takes (on_event store event.kind payload) (λ new. Unit {0})) (sym next.1.payload)
    (subst (λ (kind : ℕ). Takes (on_event store kind (payload_of next.0)) (λ new. Unit {0})) (sym next.1.kind) taken)
accepted_next maker new (Ok None) given store ok next none has e = tt
accepted_next maker new (Err stop) given store ok next none has e = tt

-- ---- genesis

pub still_passes : (result : Result PlainState NoMemory) (s : PlainState) → IfOk result (λ state. state ≡ s) → genesis_fault s ≡ None → IfOk result (λ state. genesis_fault state ≡ None)
still_passes (Ok state) s same passes = subst (λ (x : PlainState). genesis_fault x ≡ None) (sym same) passes
still_passes (Err _) s same passes = tt

pub new_is : (plan : Plan) (state : PlainState) (votes : Votes) → state ≡ made_genesis plan.config.preset plan.number → pending_of votes ≡ []
    → record { plan = plan; state = state; slot = 0; pending = pending_of votes; due = None } ≡ new_maker plan
unfolding new_maker genesis_of_plan
new_is plan state votes begins none =
    ap (λ (s : PlainState). let m : PlainMaker = record { plan = plan; state = s; slot = 0; pending = pending_of votes; due = None } in m) begins
    ∙ ap (λ (events : List MadeEvent). let m : PlainMaker = record { plan = plan; state = made_genesis plan.config.preset plan.number; slot = 0; pending = events; due = None } in m) none

-- ---- the stops

-- nothing is left of the slot, and another one is to come
pub record AtEnd (maker : PlainMaker) : Type 0 where
  pub none : maker.pending ≡ []
  pub no_due : maker.due ≡ None
  pub later : maker.slot < last_slot maker.plan

pub at_end : (maker seen : PlainMaker) → maker ≡ seen → seen.pending ≡ [] → seen.due ≡ None → seen.slot < last_slot seen.plan → AtEnd maker
at_end maker seen same none no_due later = subst AtEnd (sym same) (record { none = none; no_due = no_due; later = later })

-- the next slot is low
pub next_low : (maker : PlainMaker) (begun : ℕ) → IsMaker maker → AtEnd maker → begun ≡ maker.slot → begun + 1 ≤ 1024
next_low maker begun is end same =
    let later = end.later in
    let low = last_low maker.plan is.ok in
    omega (arith, later, low, same)

pub slots_stop : (maker : PlainMaker) (stop : Stop) → IsMaker maker → AtEnd maker → Stops stop (process_slots maker.state (maker.slot + 1) maker.plan.config) → Gives (Err stop) maker maker
slots_stop maker (stops.Refused why) is end e = slots_not_refused maker why is end.none end.no_due end.later e
slots_stop maker (stops.Limit bound) is end e = absurd (slots_not_limited maker bound is end.none end.no_due end.later e)
slots_stop maker stops.NoMemory is end e = refl

pub block_stops : (maker : PlainMaker) (due : Due) (stop : Stop) → IsMaker maker → maker.pending ≡ [] → maker.due ≡ Some due
    → Stops stop (make_block maker.plan due.at (header_root_of maker.state) due.votes) → Gives (Err stop) maker maker
block_stops maker due (stops.Refused why) is none due_is e = block_not_refused maker due why is none due_is e
block_stops maker due (stops.Limit bound) is none due_is e = let stops = block_limited maker due bound is none due_is e in (stops.0, stops.1, refl)
block_stops maker due stops.NoMemory is none due_is e = refl

-- ---- the slot's attestations

pub still_maker : (maker : PlainMaker) (old new : Votes) (due : Option PlainState) → new.all ≡ old.all → IsMaker (record maker { pending = pending_of old; due = due_of old.all due })
    → IsMaker (record maker { pending = pending_of new; due = due_of new.all due })
still_maker maker old new due same is = record {
  ok = is.ok;
  calm = is.calm;
  preset = is.preset;
  low = is.low;
  early = is.early;
  due = subst (λ (all : List Attestation). DueIs maker.plan maker.state maker.slot (due_of all due)) (sym same) is.due;
}

pub vote_given : (maker : PlainMaker) (old new : Votes) (due : Option PlainState) (result : Result (Option Event) NoMemory) → NextVote result old new → new.all ≡ old.all
    → GivesVote result (record maker { pending = pending_of old; due = due_of old.all due }) (record maker { pending = pending_of new; due = due_of new.all due })
vote_given maker old new due (Ok (Some event)) next same =
    let left : List Attestation → PlainMaker = λ all. record maker { pending = pending_of new; due = due_of all due } in (
      next.0,
      next.1,
      pending_next (record maker { pending = pending_of old; due = due_of old.all due }) next.0 (pending_of new) next.2
          ∙ ap (λ (all : List Attestation). before (next.0 ∷ []) (to_come (left all))) (sym same),
    )
vote_given maker old new due (Ok None) next same = (next.0, ap (λ (votes : Votes). let m : PlainMaker = record maker { pending = pending_of votes; due = due_of votes.all due } in m) next.1)
vote_given maker old new due (Err _) next same = ap (λ (votes : Votes). let m : PlainMaker = record maker { pending = pending_of votes; due = due_of votes.all due } in m) next

-- ---- the end

pub begun_low : (maker : PlainMaker) → IsMaker maker → maker.slot ≤ 1024
begun_low maker is =
    let early = is.early in
    let low = last_low maker.plan is.ok in
    omega arith

pub nothing_left : (old new : PlainMaker) → old.pending ≡ [] → new ≡ old → new.due ≡ None → new.slot ≡ last_slot new.plan
    → (to_come old ≡ record { events = []; end = done tt }) × (new ≡ old)
nothing_left old new none same no_due last =
    (nothing_next old none (subst (λ (m : PlainMaker). m.due ≡ None) same no_due) (subst (λ (m : PlainMaker). m.slot ≡ last_slot m.plan) same last), same)

-- the block that is due, if one is, stands behind the slot's end
pub reached_if : (state at : PlainState) (slot : ℕ) (config : ConfigValues) (entered : List PlainState) (skipped : Bool) (due : Option PlainState) → due ≡ (if skipped then None else Some at)
    → process_slots state slot config ≡ done (record { state = at; entered = entered }) → IsReached state slot config entered due
reached_if state at slot config entered true due same is = subst (IsReached state slot config entered) (sym same) tt
reached_if state at slot config entered false due same is = subst (IsReached state slot config entered) (sym same) is

made_here : {A : Type 0} (P : A → Type 0) (o : Outcome A) (value : A) → GivesOrLimit P o → o ≡ done value → P value
made_here P o value gives e = elim gives.either [
  | inl g ↦ subst P (same_value g.value value (sym g.is ∙ e)) g.holds
  | inr stops ↦ absurd cc
]

-- and the transition takes it
pub stepped_is : (maker : PlainMaker) (due : Due) (made : MadeBlock) (entered : List PlainState) → IsMaker maker → maker.pending ≡ [] → maker.due ≡ Some due
    → make_block maker.plan due.at (header_root_of maker.state) due.votes ≡ done made → process_slots maker.state maker.slot maker.plan.config ≡ done (record { state = due.at; entered = entered })
    → (made.block.message.parent_root ≡ header_root_of maker.state) × (state_transition maker.state made.block maker.plan.config ≡ done (record { state = made.state; entered = entered })) × (made.state.slot ≡ made.block.message.slot)
stepped_is maker due made entered is none due_is e reached =
    let stands = subst (DueIs maker.plan maker.state maker.slot) due_is is.due in
    let root : List ℕ = header_root_of maker.state in
    let at : Stepped = record { state = due.at; entered = entered } in
    let votes : due.votes ≡ votes_of due.at root stands.voted = stands.votes in
    let next : due.at.slot ≡ stands.voted + 1 = stands.at ∙ stands.next in
    let is_made : IsMade due.at root due.votes maker.plan.config made = made_here (IsMade due.at root due.votes maker.plan.config) (make_block maker.plan due.at root due.votes) made
    (subst (λ (votes : List Attestation). GivesOrLimit (IsMade due.at root votes maker.plan.config) (make_block maker.plan due.at root votes)) (sym votes) (make_gives maker.plan due.at root stands.voted stands.calm next)) e in
    (is_made.parent, made_is_taken maker.plan.config maker.state at root due.votes made (subst (λ (slot : ℕ). process_slots maker.state slot maker.plan.config ≡ done at) (sym stands.at) reached) is_made, is_made.at ∙ sym is_made.slot)
