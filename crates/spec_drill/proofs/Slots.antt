-- The slots of a made chain: none is refused, and the states stay as they have to be.
use Rattle.std.proofs.Common.{◌≡◌, ◌∙◌, ◌⊎◌, ℕ, zero, suc, ◌+◌, ◌-◌, ◌*◌, ◌/◌, ◌%◌, ◌<◌, ◌≤◌, ◌==◌, not, nat_lt, [], ◌∷◌, ◌++◌, length, refl, sym, ap, subst, inl, inr, arith}
use Rattle.spec_blocks.specs.Gives.{Gives}
use Rattle.spec_drill.specs.inside.Calm.{IsAt, IsNear, IsCalm}
use Rattle.std.specs.List.{AllByRecursion}
use Rattle.std.proofs.lemmas.Bool.{false≢true, eqb-false, eqb-true, cases_lt, lt-ltb, ltb-true, not-true, not-false}
use Rattle.bc_words.specs.Outcome.{done, refused, limited, each_from}
use Rattle.bc_words.specs.declared.refusal.Refusal.TheVariants.{SlotNotLater}
use Rattle.bc_words.specs.declared.stop.Limit.TheVariants.{Slots}
use Rattle.bc_preset.specs.Presets.{IsPreset}
use Rattle.bc_preset.specs.declared.presets.Preset.{Preset}
use Rattle.bc_preset.proofs.Bounds.{preset_bounds}
use Rattle.bc_preset.specs.declared.configuration.ConfigValues.{ConfigValues}
use Rattle.spec_state.specs.declared.plain.PlainState.{PlainState}
use Rattle.spec_state.specs.States.{votes_limit}
use Rattle.spec_state.specs.Soundness.{IsSound}
use Rattle.spec_state.specs.Constants.{max_slots}
use Rattle.spec_state.specs.Accessors.{get_current_epoch}
use Rattle.spec_transition.specs.ProcessSlot.{process_slot}
use Rattle.spec_transition.specs.ProcessSlots.{Stepped, is_last_of_epoch, with_next_slot, end_epoch, next_slot, process_slots}
use Rattle.spec_transition.proofs.Sound.{slot_end_sound}
use Rattle.spec_transition.proofs.SoundSlots.{next_sound, next_slot_is, next_preset_is}
use Rattle.spec_epochs.specs.ProcessEpoch.{process_epoch}
use Rattle.spec_blocks.proofs.Gives.{gives_done, gives_then, gives_if, gives_more}
use Rattle.spec_drill.proofs.Epoch.{IsOver, IsEnding, epoch_gives, full_stays}

-- ---- places of slots

-- the next slot is one place further in its epoch, or the first of the next one
pub record NextInEpoch (n slot : ℕ) : Type 0 where
  pub place : (slot + 1) % n ≡ slot % n + 1
  pub epoch : (slot + 1) / n ≡ slot / n

pub record NextEpoch (n slot : ℕ) : Type 0 where
  pub place : (slot + 1) % n ≡ 0
  pub epoch : (slot + 1) / n ≡ slot / n + 1
  pub last : slot % n + 1 ≡ n

next_place_8 : (slot : ℕ) → NextInEpoch 8 slot ⊎ NextEpoch 8 slot
next_place_8 slot = elim (cases_lt (slot % 8 + 1) 8) [
  | inl less ↦ inl (record { place = omega arith; epoch = omega arith })
  | inr last ↦ inr (record { place = omega arith; epoch = omega arith; last = omega arith })
]

next_place_32 : (slot : ℕ) → NextInEpoch 32 slot ⊎ NextEpoch 32 slot
next_place_32 slot = elim (cases_lt (slot % 32 + 1) 32) [
  | inl less ↦ inl (record { place = omega arith; epoch = omega arith })
  | inr last ↦ inr (record { place = omega arith; epoch = omega arith; last = omega arith })
]

pub next_place : (p : Preset) (slot : ℕ) → IsPreset p → NextInEpoch p.slots_per_epoch slot ⊎ NextEpoch p.slots_per_epoch slot
unfolding IsPreset
next_place p slot (inl e) = subst (λ (p : Preset). NextInEpoch p.slots_per_epoch slot ⊎ NextEpoch p.slots_per_epoch slot) (sym e) (next_place_32 slot)
next_place p slot (inr e) = subst (λ (p : Preset). NextInEpoch p.slots_per_epoch slot ⊎ NextEpoch p.slots_per_epoch slot) (sym e) (next_place_8 slot)

-- and the votes have a place more, or begin anew
record NewPeriod (n period slot : ℕ) : Type 0 where
  last : (slot + 1) % n ≡ 0
  new : (slot / n + 1) % period ≡ 0

next_vote_8 : (slot : ℕ) → ((slot + 1) % 32 ≡ slot % 32 + 1) ⊎ NewPeriod 8 4 slot
next_vote_8 slot = elim (cases_lt (slot % 32 + 1) 32) [
  | inl less ↦ inl (omega arith)
  | inr last ↦ inr (record { last = omega arith; new = omega arith })
]

next_vote_32 : (slot : ℕ) → ((slot + 1) % 2048 ≡ slot % 2048 + 1) ⊎ NewPeriod 32 64 slot
next_vote_32 slot = elim (cases_lt (slot % 2048 + 1) 2048) [
  | inl less ↦ inl (omega arith)
  | inr last ↦ inr (record { last = omega arith; new = omega arith })
]

next_vote : (p : Preset) (slot : ℕ) → IsPreset p → ((slot + 1) % votes_limit p ≡ slot % votes_limit p + 1) ⊎ NewPeriod p.slots_per_epoch p.epochs_per_eth1_voting_period slot
unfolding IsPreset
next_vote p slot (inl e) = subst (λ (p : Preset). ((slot + 1) % votes_limit p ≡ slot % votes_limit p + 1) ⊎ NewPeriod p.slots_per_epoch p.epochs_per_eth1_voting_period slot) (sym e) (next_vote_32 slot)
next_vote p slot (inr e) = subst (λ (p : Preset). ((slot + 1) % votes_limit p ≡ slot % votes_limit p + 1) ⊎ NewPeriod p.slots_per_epoch p.epochs_per_eth1_voting_period slot) (sym e) (next_vote_8 slot)

low_epoch : (p : Preset) (slot : ℕ) → IsPreset p → slot < 32 * p.slots_per_epoch → slot / p.slots_per_epoch ≤ 31
unfolding IsPreset
low_epoch p slot (inl e) = subst (λ (p : Preset). slot < 32 * p.slots_per_epoch → slot / p.slots_per_epoch ≤ 31) (sym e) (λ h. omega arith)
low_epoch p slot (inr e) = subst (λ (p : Preset). slot < 32 * p.slots_per_epoch → slot / p.slots_per_epoch ≤ 31) (sym e) (λ h. omega arith)

-- ---- the end of a slot

pub slot_calm : (blocks : ℕ) (s : PlainState) → IsCalm blocks s → IsCalm blocks (process_slot s)
unfolding process_slot get_current_epoch
slot_calm blocks s calm = record {
  preset = calm.preset;
  sound = sound_of s calm.sound;
  early = calm.early;
  registry = record { many = calm.registry.many; all = calm.registry.all };
  balances = record { many = calm.balances.many; all = calm.balances.all };
  roomy = record { votes = calm.roomy.votes; previous = calm.roomy.previous; current = calm.roomy.current; historical = calm.roomy.historical };
  quiet = record { eth1 = calm.quiet.eth1; index = calm.quiet.index; slashings = calm.quiet.slashings };
} where
  sound_of : (s : PlainState) → IsSound s → IsSound (process_slot s)
  sound_of s sound = slot_end_sound s sound

-- before a block there is more room than behind it
pub calm_more : (s : PlainState) → IsCalm 0 s → IsCalm 1 s
calm_more s calm =
    let v = calm.roomy.votes in let p = calm.roomy.previous in let c = calm.roomy.current in
    record {
      preset = calm.preset;
      sound = calm.sound;
      early = calm.early;
      registry = calm.registry;
      balances = calm.balances;
      roomy = record { votes = omega arith; previous = omega arith; current = omega arith; historical = calm.roomy.historical };
      quiet = calm.quiet;
    }

-- ---- the next slot

still_early : (n slot : ℕ) → slot < 32 * n → slot + 1 ≤ 32 * n
still_early n slot h = omega arith

-- the state at the next slot of the epoch
within_calm : (s : PlainState) → IsCalm 1 s → s.slot < 32 * s.preset.slots_per_epoch → NextInEpoch s.preset.slots_per_epoch s.slot → IsSound (with_next_slot s) → IsCalm 0 (with_next_slot s)
unfolding with_next_slot get_current_epoch
within_calm s calm early next sound =
    let n : ℕ = s.preset.slots_per_epoch in
    let v = calm.roomy.votes in let p = calm.roomy.previous in let c = calm.roomy.current in let h = calm.roomy.historical in
    let place = next.place in
    record {
      preset = calm.preset;
      sound = sound;
      early = omega arith;
      registry = record { many = calm.registry.many; all = calm.registry.all };
      balances = record { many = calm.balances.many; all = subst (λ (e : ℕ). AllByRecursion (IsNear e) s.balances) (sym next.epoch) calm.balances.all };
      roomy = record {
        votes = elim (next_vote s.preset s.slot calm.preset) [
          | inl more ↦ omega arith
          | inr begins ↦ absurd (let z = begins.last in omega arith)
        ];
        previous = omega arith;
        current = omega arith;
        historical = subst (λ (e : ℕ). length s.historical_roots ≤ e) (sym next.epoch) h;
      };
      quiet = record { eth1 = calm.quiet.eth1; index = calm.quiet.index; slashings = calm.quiet.slashings };
    }

-- the state at the first slot of the next epoch
begun_calm : (s t : PlainState) → IsCalm 1 s → s.slot < 32 * s.preset.slots_per_epoch → NextEpoch s.preset.slots_per_epoch s.slot → IsOver s t → IsSound (with_next_slot t) → IsCalm 0 (with_next_slot t)
unfolding with_next_slot get_current_epoch
begun_calm s t calm early next over sound =
    let n : ℕ = s.preset.slots_per_epoch in
    let slot = over.leaves.slot in
    let preset = over.leaves.preset in
    let last = next.last in let first = next.place in
    let size : t.preset.slots_per_epoch ≡ n = ap (λ (p : Preset). p.slots_per_epoch) preset in
    let at : (t.slot + 1) / t.preset.slots_per_epoch ≡ s.slot / n + 1 = ap (λ (k : ℕ). (k + 1) / t.preset.slots_per_epoch) slot ∙ (ap (λ (k : ℕ). (s.slot + 1) / k) size ∙ next.epoch) in
    let zero_place : (t.slot + 1) % t.preset.slots_per_epoch ≡ 0 = ap (λ (k : ℕ). (k + 1) % t.preset.slots_per_epoch) slot ∙ (ap (λ (k : ℕ). (s.slot + 1) % k) size ∙ first) in
    let vote_place : (t.slot + 1) % votes_limit t.preset ≡ (s.slot + 1) % votes_limit s.preset = ap (λ (k : ℕ). (k + 1) % votes_limit t.preset) slot ∙ ap (λ (p : Preset). (s.slot + 1) % votes_limit p) preset in
    let v = calm.roomy.votes in let c = calm.roomy.current in let h = calm.roomy.historical in
    let previous_few : length t.previous_epoch_attestations ≡ length s.current_epoch_attestations = ap (λ a. length a) over.previous in
    let current_few : length t.current_epoch_attestations ≡ 0 = ap (λ a. length a) over.current in
    let votes_few = over.votes in
    let roots_few = over.historical in
    record {
      preset = subst IsPreset (sym preset) calm.preset;
      sound = sound;
      early = let e = still_early n s.slot early in subst (λ (k : ℕ). t.slot + 1 ≤ 32 * k) (sym size) (omega arith);
      registry = let r = full_stays s t over.leaves.validators calm.registry in record { many = r.many; all = r.all };
      balances = record { many = over.near.many; all = subst (λ (e : ℕ). AllByRecursion (IsNear e) t.balances) (sym at) over.near.all };
      roomy = record {
        votes = elim (next_vote s.preset s.slot calm.preset) [
          | inl more ↦ omega arith
          | inr begins ↦ let none : length t.eth1_data_votes ≡ 0 = ap (λ a. length a) (over.no_votes begins.new) in omega arith
        ];
        previous = omega arith;
        current = omega arith;
        historical = omega arith;
      };
      quiet = record { eth1 = over.leaves.eth1_data ∙ calm.quiet.eth1; index = over.leaves.index ∙ calm.quiet.index; slashings = over.slashings };
    }

ending_of : (config : ConfigValues) (s : PlainState) → config.ejection_balance < 32_000_000_000 → IsCalm 1 s → s.slot < 32 * s.preset.slots_per_epoch → IsEnding config s
unfolding get_current_epoch
ending_of config s low calm early =
    let at : s.slot / s.preset.slots_per_epoch ≤ 31 = low_epoch s.preset s.slot calm.preset early in
    let h = calm.roomy.historical in
    record {
      bounds = preset_bounds s.preset calm.preset;
      ejection = low;
      sound = calm.sound;
      registry = calm.registry;
      early = at;
      near = calm.balances;
      slashings = calm.quiet.slashings;
      historical = omega arith;
    }

-- the state at the next slot, of which we know already that it is sound where there is one
record IsNextCalm (s t : PlainState) : Type 0 where
  slot : t.slot ≡ s.slot + 1
  calm : IsSound t → IsCalm 0 t

pub few_slots : (p : Preset) (slot : ℕ) → IsPreset p → slot ≤ 32 * p.slots_per_epoch → slot ≤ 1024
unfolding IsPreset
few_slots p slot (inl e) = subst (λ (p : Preset). slot ≤ 32 * p.slots_per_epoch → slot ≤ 1024) (sym e) (λ h. omega arith)
few_slots p slot (inr e) = subst (λ (p : Preset). slot ≤ 32 * p.slots_per_epoch → slot ≤ 1024) (sym e) (λ h. omega arith)

next_at : (s : PlainState) → (with_next_slot s).slot ≡ s.slot + 1
unfolding with_next_slot
next_at s = refl

end_gives : (config : ConfigValues) (s : Stepped) → config.ejection_balance < 32_000_000_000 → IsCalm 1 s.state → s.state.slot < 32 * s.state.preset.slots_per_epoch
    → Gives (λ (x : Stepped). IsNextCalm s.state (with_next_slot x.state)) (end_epoch config s)
unfolding end_epoch is_last_of_epoch
end_gives config s low calm early =
    let Goal : Stepped → Type 0 = λ (x : Stepped). IsNextCalm s.state (with_next_slot x.state) in
    let place = next_place s.state.preset s.state.slot calm.preset in
    gives_if Goal (not ((s.state.slot + 1) % s.state.preset.slots_per_epoch == 0)) (done s) _
    (λ h. gives_done Goal s (record {
      slot = next_at s.state;
      calm = λ sound. elim place [
        | inl within ↦ within_calm s.state calm early within sound
        | inr begins ↦ absurd (eqb-false _ _ (not-true _ h) begins.place)
      ];
    }))
    (λ h. gives_then (IsOver s.state) Goal (process_epoch s.state config) _ (epoch_gives config s.state (ending_of config s.state low calm early)) (λ t over.
    gives_done Goal (record { state = t; entered = s.entered ++ s.state ∷ [] }) (record {
      slot = next_at t ∙ ap (λ (n : ℕ). n + 1) over.leaves.slot;
      calm = λ sound. elim place [
        | inl within ↦ absurd (let z = eqb-true ((s.state.slot + 1) % s.state.preset.slots_per_epoch) 0 (not-false _ h) in let w = within.place in omega arith)
        | inr begins ↦ begun_calm s.state t calm early begins over sound
      ];
    })))

over_slot : (s : PlainState) → (process_slot s).slot ≡ s.slot
unfolding process_slot
over_slot s = refl

over_preset : (s : PlainState) → (process_slot s).preset ≡ s.preset
unfolding process_slot
over_preset s = refl

next_slot_gives : (config : ConfigValues) (s : Stepped) → config.ejection_balance < 32_000_000_000 → IsCalm 1 s.state → s.state.slot < 32 * s.state.preset.slots_per_epoch → Gives (λ (x : Stepped). IsNextCalm s.state x.state) (next_slot config s)
unfolding next_slot
next_slot_gives config s low calm early =
    let over : Stepped = record s { state = process_slot s.state } in
    let same = over_slot s.state in
    let size : (process_slot s.state).preset.slots_per_epoch ≡ s.state.preset.slots_per_epoch = ap (λ (p : Preset). p.slots_per_epoch) (over_preset s.state) in
    gives_then (λ (x : Stepped). IsNextCalm (process_slot s.state) (with_next_slot x.state)) (λ (x : Stepped). IsNextCalm s.state x.state) (end_epoch config over) _
    (end_gives config over low (slot_calm 1 s.state calm) (subst (λ n. (process_slot s.state).slot < 32 * n) (sym size) (omega arith))) (λ x next.
    gives_done (λ (x : Stepped). IsNextCalm s.state x.state) (record x { state = with_next_slot x.state }) (record { slot = next.slot ∙ ap (λ (n : ℕ). n + 1) same; calm = next.calm }))

pub next_gives : (config : ConfigValues) (s : Stepped) → config.ejection_balance < 32_000_000_000 → IsCalm 1 s.state → s.state.slot < 32 * s.state.preset.slots_per_epoch → Gives (IsAt (s.state.slot + 1) s.state.preset) (next_slot config s)
next_gives config s low calm early =
    let g = next_slot_gives config s low calm early in
    let bounds = preset_bounds s.state.preset calm.preset in
    let few = few_slots s.state.preset s.state.slot calm.preset (omega arith) in
    let sound : IsSound g.value.state = next_sound config s g.value g.is bounds (omega arith) calm.sound in
    record { value = g.value; is = g.is; holds = record { calm = g.holds.calm sound; slot = next_slot_is config s g.value g.is; preset = next_preset_is config s g.value g.is } }

-- ---- slots

steps_give : (config : ConfigValues) (count index : ℕ) (s : Stepped) → config.ejection_balance < 32_000_000_000 → IsCalm 0 s.state → s.state.slot + count ≤ 32 * s.state.preset.slots_per_epoch
    → Gives (IsAt (s.state.slot + count) s.state.preset) (each_from (λ index. next_slot config) count index s)
unfolding each_from
steps_give config zero index s low calm early = gives_done (IsAt (s.state.slot + 0) s.state.preset) s (record { calm = calm; slot = omega arith; preset = refl })
steps_give config (suc count) index s low calm early =
    gives_then (IsAt (s.state.slot + 1) s.state.preset) (IsAt (s.state.slot + suc count) s.state.preset) (next_slot config s) _ (next_gives config s low (calm_more s.state calm) (omega arith)) (λ x at.
    let slot = at.slot in
    let size : x.state.preset.slots_per_epoch ≡ s.state.preset.slots_per_epoch = ap (λ (p : Preset). p.slots_per_epoch) at.preset in
    gives_more (IsAt (x.state.slot + count) x.state.preset) (IsAt (s.state.slot + suc count) s.state.preset) _ (λ y y_at. record { calm = y_at.calm; slot = let e = y_at.slot in omega arith; preset = y_at.preset ∙ at.preset }) (steps_give config count (index + 1) x low at.calm (omega arith)))

-- process_slots
pub slots_give : (config : ConfigValues) (s : PlainState) (slot : ℕ) → config.ejection_balance < 32_000_000_000 → IsCalm 1 s → s.slot < slot → slot ≤ 32 * s.preset.slots_per_epoch → Gives (IsAt slot s.preset) (process_slots s slot config)
unfolding process_slots each_from
slots_give config s slot low calm later early =
    let few = few_slots s.preset slot calm.preset early in
    let one : slot - s.slot ≡ suc (slot - (s.slot + 1)) = omega arith in
    let start : Stepped = record { state = s; entered = [] } in
    gives_if (IsAt slot s.preset) (not (nat_lt s.slot slot)) (refused SlotNotLater) _ (λ h. absurd (false≢true (sym (not-true _ h) ∙ lt-ltb s.slot slot later))) (λ h.
    gives_if (IsAt slot s.preset) (nat_lt max_slots (slot - s.slot)) (limited (Slots (slot - s.slot))) _ (λ h. absurd (let l = ltb-true max_slots (slot - s.slot) h in omega arith)) (λ h.
    subst (λ n. Gives (IsAt slot s.preset) (each_from (λ index. next_slot config) n s.slot start)) (sym one)
    (gives_then (IsAt (s.slot + 1) s.preset) (IsAt slot s.preset) (next_slot config start) _ (next_gives config start low calm (omega arith)) (λ x at.
    let x_slot = at.slot in
    let size : x.state.preset.slots_per_epoch ≡ s.preset.slots_per_epoch = ap (λ (p : Preset). p.slots_per_epoch) at.preset in
    gives_more (IsAt (x.state.slot + (slot - (s.slot + 1))) x.state.preset) (IsAt slot s.preset) _ (λ y y_at. record { calm = y_at.calm; slot = let e = y_at.slot in omega arith; preset = y_at.preset ∙ at.preset }) (steps_give config (slot - (s.slot + 1)) (s.slot + 1) x low at.calm (omega arith))))))
