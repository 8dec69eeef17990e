-- The steps of a maker: what the next event is, and what is left.
use Rattle.std.proofs.Common.{◌≡◌, ◌∙◌, ◌⊎◌, ℕ, suc, ◌+◌, ◌-◌, ◌*◌, ◌<◌, ◌≤◌, Bool, true, false, List, [], ◌∷◌, map, Option, Some, None, if◌then◌else◌, refl, sym, ap, subst, inl, inr, arith}
use Rattle.bc_words.specs.Outcome.{Outcome, done, limited}
use Rattle.bc_words.specs.declared.stop.Limit.TheVariants.{Proposer}
use Rattle.bc_preset.specs.declared.presets.Preset.{Preset}
use Rattle.beacon_types.specs.declared.attestation.Attestation.{Attestation}
use Rattle.spec_state.specs.declared.plain.PlainState.{PlainState}
use Rattle.spec_state.specs.Genesis.{header_root_of}
use Rattle.spec_transition.specs.ProcessSlots.{Stepped, process_slots}
use Rattle.spec_drill.specs.Plan.{Plan, IsPlan, last_slot, is_skipped}
use Rattle.spec_drill.specs.MakeVotes.{votes_of}
use Rattle.spec_drill.specs.MakeBlock.{MadeBlock, make_block}
use Rattle.spec_drill.specs.MakeGenesis.{genesis_of_plan}
use Rattle.spec_drill.specs.Make.{MadeEvent, Made, before, then_made, time_of, opening, brought, made_from, made}
use Rattle.spec_drill.specs.Maker.{Due, PlainMaker, to_come, behind, later_slots, new_maker}
use Rattle.spec_drill.specs.inside.Makers.{IsDue, DueIs, IsMaker}
use Rattle.spec_drill.specs.Make as makes
use Rattle.spec_drill.proofs.Block.{make_gives}
use Rattle.spec_drill.proofs.Slots.{slots_give}
use Rattle.spec_drill.proofs.Genesis.{last_slot_low, made_genesis_calm, slot_zero}

-- an event that is pending comes next
pub pending_next : (maker : PlainMaker) (event : MadeEvent) (events : List MadeEvent) → maker.pending ≡ event ∷ events → to_come maker ≡ before (event ∷ []) (to_come (record maker { pending = events }))
unfolding to_come behind later_slots
pending_next maker event events is = ap (λ (es : List MadeEvent). before es (behind maker maker.due)) is

-- behind the last slot nothing comes
pub nothing_next : (maker : PlainMaker) → maker.pending ≡ [] → maker.due ≡ None → maker.slot ≡ last_slot maker.plan → to_come maker ≡ record { events = []; end = done tt }
unfolding to_come behind later_slots made_from
nothing_next maker none no_due last =
    let zeros : last_slot maker.plan - maker.slot ≡ 0 = omega arith in
    ap (λ (es : List MadeEvent). before es (behind maker maker.due)) none ∙ (ap (behind maker) no_due ∙ ap (made_from maker.plan maker.state maker.slot) zeros)

-- what is due in a slot that was opened
abbrev pub due_unless : Bool → Due → Option Due
due_unless skipped due = if skipped then None else Some due

-- the maker that opened the next slot and gave its tick
unfoldable pub opened : PlainMaker → PlainState → PlainMaker
opened maker at =
    let votes : List Attestation = votes_of at (header_root_of maker.state) maker.slot in
    record maker { slot = maker.slot + 1; pending = map makes.wire votes; due = due_unless (is_skipped maker.plan (maker.slot + 1)) (record { at = at; votes = votes }) }

due_either : (b : Bool) (plan : Plan) (state : PlainState) (slot : ℕ) (due : Due) → IsDue plan state slot due → DueIs plan state slot (due_unless b due)
due_either true plan state slot due is = tt
due_either false plan state slot due is = is

behind_either : (b : Bool) (maker : PlainMaker) (due : Due) → (if b then behind maker None else behind maker (Some due)) ≡ behind maker (due_unless b due)
behind_either true maker due = refl
behind_either false maker due = refl

-- the next slot opens: its slots are passed, and its tick comes next
pub record Opens (maker : PlainMaker) : Type 0 where
  pub at : Stepped
  pub slots : process_slots maker.state (maker.slot + 1) maker.plan.config ≡ done at
  pub comes : to_come maker ≡ before (makes.tick (time_of maker.plan (maker.slot + 1)) ∷ []) (to_come (opened maker at.state))
  pub stands : IsMaker (opened maker at.state)

pub slot_opens : (maker : PlainMaker) → IsMaker maker → maker.pending ≡ [] → maker.due ≡ None → maker.slot < last_slot maker.plan → Opens maker
unfolding to_come behind later_slots made_from opening opened
slot_opens maker is none no_due later =
    let plan = maker.plan in
    let low = is.low in
    let most = last_slot_low plan in
    let g = slots_give plan.config maker.state (maker.slot + 1) is.ok.ejection is.calm (omega arith) (subst (λ (p : Preset). maker.slot + 1 ≤ 32 * p.slots_per_epoch) (sym is.preset) (omega arith)) in
    let at : PlainState = g.value.state in
    let votes : List Attestation = votes_of at (header_root_of maker.state) maker.slot in
    let due : Due = record { at = at; votes = votes } in
    let one : last_slot plan - maker.slot ≡ suc (last_slot plan - (maker.slot + 1)) = omega arith in
    let skipped : Bool = is_skipped plan (maker.slot + 1) in
    let there : PlainMaker = record maker { slot = maker.slot + 1; pending = map makes.wire votes; due = due_unless skipped due } in
    let rest : Made = if skipped then behind there None else behind there (Some due) in
    record {
      at = g.value;
      slots = g.is;
      comes = ap (λ (es : List MadeEvent). before es (behind maker maker.due)) none ∙ (ap (behind maker) no_due ∙ (ap (made_from plan maker.state maker.slot) one
          ∙ (ap (λ (o : Outcome Stepped). then_made o (λ at. before (opening plan (maker.slot + 1) (votes_of at.state (header_root_of maker.state) maker.slot))
          (if is_skipped plan (maker.slot + 1) then made_from plan maker.state (maker.slot + 1) (last_slot plan - (maker.slot + 1))
          else then_made (make_block plan at.state (header_root_of maker.state) (votes_of at.state (header_root_of maker.state) maker.slot)) (λ made. before (brought made.block (votes_of at.state (header_root_of maker.state) maker.slot)) (made_from plan made.state (maker.slot + 1) (last_slot plan - (maker.slot + 1))))))) g.is
          ∙ ap (λ (m : Made). before (makes.tick (time_of plan (maker.slot + 1)) ∷ map makes.wire votes) m) (behind_either skipped there due))));
      stands = record {
        ok = is.ok;
        calm = is.calm;
        preset = is.preset;
        low = omega arith;
        early = omega arith;
        due = due_either skipped plan maker.state (maker.slot + 1) due (record { calm = g.holds.calm; preset = g.holds.preset ∙ is.preset; at = g.holds.slot; voted = maker.slot; next = refl; votes = refl });
      };
    }

-- the block that is due: it comes next, or the proposer's limit ends the chain
unfoldable pub grown : PlainMaker → Due → MadeBlock → PlainMaker
grown maker due made = record maker { state = made.state; pending = map makes.carried due.votes; due = None }

pub record Brings (maker : PlainMaker) (due : Due) : Type 0 where
  pub made : MadeBlock
  pub is : make_block maker.plan due.at (header_root_of maker.state) due.votes ≡ done made
  pub comes : to_come maker ≡ before (makes.block made.block ∷ []) (to_come (grown maker due made))
  pub stands : IsMaker (grown maker due made)

pub record Stops (maker : PlainMaker) (due : Due) : Type 0 where
  pub is : make_block maker.plan due.at (header_root_of maker.state) due.votes ≡ limited Proposer
  pub comes : to_come maker ≡ record { events = []; end = limited Proposer }

pub block_comes : (maker : PlainMaker) (due : Due) → IsMaker maker → maker.pending ≡ [] → maker.due ≡ Some due → Brings maker due ⊎ Stops maker due
unfolding to_come behind later_slots brought grown
block_comes maker due is none due_is =
    let plan = maker.plan in
    let d : IsDue plan maker.state maker.slot due = subst (DueIs plan maker.state maker.slot) due_is is.due in
    let root : List ℕ = header_root_of maker.state in
    let same : make_block plan due.at root due.votes ≡ make_block plan due.at root (votes_of due.at root d.voted) = ap (make_block plan due.at root) d.votes in
    let first : to_come maker ≡ behind maker (Some due) = ap (λ (es : List MadeEvent). before es (behind maker maker.due)) none ∙ ap (behind maker) due_is in
    elim (make_gives plan due.at root d.voted d.calm (d.at ∙ d.next)).either [
      | inl m ↦
          let at = m.holds.at in let slot = d.at in
          inl (record {
            made = m.value;
            is = same ∙ m.is;
            comes = first ∙ ap (λ (o : Outcome MadeBlock). then_made o (λ made. before (brought made.block due.votes) (later_slots maker made.state))) (same ∙ m.is);
            stands = record { ok = is.ok; calm = m.holds.calm; preset = m.holds.preset ∙ d.preset; low = omega arith; early = is.early; due = tt };
          })
      | inr stops ↦ inr (record {
        is = same ∙ stops;
        comes = first ∙ ap (λ (o : Outcome MadeBlock). then_made o (λ made. before (brought made.block due.votes) (later_slots maker made.state))) (same ∙ stops);
      })
    ]

-- a new maker stands at genesis
pub new_maker_stands : (plan : Plan) → IsPlan plan → IsMaker (new_maker plan)
unfolding new_maker genesis_of_plan
new_maker_stands plan ok =
    let zeros = slot_zero plan.config.preset plan.number in
    let at = zeros.0 in
    record {
      ok = ok;
      calm = made_genesis_calm plan.config.preset plan.number ok.config.preset;
      preset = zeros.2;
      low = omega arith;
      early = omega arith;
      due = tt;
    }
