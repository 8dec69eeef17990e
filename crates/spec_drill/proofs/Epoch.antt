-- An epoch's end on a made chain: nothing is refused, and it leaves the chain's states as they have to be.
use Rattle.std.proofs.Common.{◌≡◌, ◌∙◌, ℕ, zero, suc, ◌+◌, ◌-◌, ◌/◌, ◌%◌, ◌<◌, ◌≤◌, ◌==◌, List, [], ◌∷◌, length, slice_set, refl, sym, ap, subst, inl, inr, arith}
use Rattle.spec_blocks.specs.Gives.{Gives}
use Rattle.spec_drill.specs.inside.Calm.{IsFull, IsFullRegistry, IsNear, AreNear}
use Rattle.std.specs.List.{AllByRecursion}
use Rattle.std.proofs.lemmas.Bool.{eqb-false}
use Rattle.bc_words.specs.Outcome.{done}
use Rattle.bc_preset.specs.declared.presets.Preset.{Preset}
use Rattle.bc_preset.specs.laws.Bounds.{HasPresetBounds}
use Rattle.bc_preset.specs.declared.configuration.ConfigValues.{ConfigValues}
use Rattle.beacon_types.specs.declared.eth1_data.Eth1Data.{Eth1Data}
use Rattle.spec_state.specs.declared.plain.PlainState.{PlainState}
use Rattle.spec_state.specs.Soundness.{IsSound, IsSoundWithinEpoch}
use Rattle.spec_state.specs.Accessors.{get_current_epoch, get_previous_epoch}
use Rattle.spec_blocks.proofs.Done.{chosen}
use Rattle.spec_epochs.specs.ProcessJustificationAndFinalization.{process_justification_and_finalization}
use Rattle.spec_epochs.specs.WeighJustificationAndFinalization.{with_justification}
use Rattle.spec_epochs.specs.ProcessRewardsAndPenalties.{process_rewards_and_penalties}
use Rattle.spec_epochs.specs.ProcessRegistryUpdates.{process_registry_updates}
use Rattle.spec_epochs.specs.ProcessSlashings.{process_slashings}
use Rattle.spec_epochs.specs.ProcessEth1DataReset.{process_eth1_data_reset}
use Rattle.spec_epochs.specs.ProcessEffectiveBalanceUpdates.{process_effective_balance_updates}
use Rattle.spec_epochs.specs.ProcessSlashingsReset.{process_slashings_reset}
use Rattle.spec_epochs.specs.ProcessRandaoMixesReset.{process_randao_mixes_reset}
use Rattle.spec_epochs.specs.ProcessHistoricalRootsUpdate.{process_historical_roots_update}
use Rattle.spec_epochs.specs.ProcessParticipationRecordUpdates.{process_participation_record_updates}
use Rattle.spec_epochs.specs.ProcessEpoch.{process_epoch}
use Rattle.spec_epochs.proofs.SoundJustification.{justification_sound}
use Rattle.spec_blocks.proofs.Gives.{gives_done, gives_then, is_gives}
use Rattle.spec_drill.proofs.Rewards.{IsPaid, rewards_give}
use Rattle.spec_drill.proofs.Parts.{IsWeighed, IsRooted, justification_gives, registry_stays, slashings_stay, effective_balances_stay, roots_give}

-- what all parts leave as it was
pub record Leaves (s t : PlainState) : Type 0 where
  pub preset : t.preset ≡ s.preset
  pub slot : t.slot ≡ s.slot
  pub validators : t.validators ≡ s.validators
  pub eth1_data : t.eth1_data ≡ s.eth1_data
  pub index : t.eth1_deposit_index ≡ s.eth1_deposit_index

-- and the first ones besides
record LeavesLists (s t : PlainState) : Type 0 where
  leaves : Leaves s t
  votes : t.eth1_data_votes ≡ s.eth1_data_votes
  slashings : t.slashings ≡ s.slashings
  historical : t.historical_roots ≡ s.historical_roots
  current : t.current_epoch_attestations ≡ s.current_epoch_attestations

weighed_leaves : (s t : PlainState) → IsWeighed s t → LeavesLists s t × (t.balances ≡ s.balances)
unfolding with_justification
weighed_leaves s t weighed = subst (λ (x : PlainState). LeavesLists s x × (x.balances ≡ s.balances)) (sym weighed.state)
    (record { leaves = record { preset = refl; slot = refl; validators = refl; eth1_data = refl; index = refl }; votes = refl; slashings = refl; historical = refl; current = refl }, refl)

paid_leaves : (s t u : PlainState) → LeavesLists s t → IsPaid t u → LeavesLists s u
paid_leaves s t u l paid = subst (LeavesLists s) (sym paid.state) (record {
  leaves = record { preset = l.leaves.preset; slot = l.leaves.slot; validators = l.leaves.validators; eth1_data = l.leaves.eth1_data; index = l.leaves.index };
  votes = l.votes;
  slashings = l.slashings;
  historical = l.historical;
  current = l.current;
})

-- what an epoch's end leaves
pub record IsOver (s t : PlainState) : Type 0 where
  pub leaves : Leaves s t
  pub near : AreNear (get_current_epoch s + 1) t
  pub votes : length t.eth1_data_votes ≤ length s.eth1_data_votes
  pub no_votes : (get_current_epoch s + 1) % s.preset.epochs_per_eth1_voting_period ≡ 0 → t.eth1_data_votes ≡ []
  pub slashings : AllByRecursion (λ n. n ≡ 0) t.slashings
  pub previous : t.previous_epoch_attestations ≡ s.current_epoch_attestations
  pub current : t.current_epoch_attestations ≡ []
  pub historical : length t.historical_roots ≤ length s.historical_roots + 1

set_zero : (xs : List ℕ) (i : ℕ) → AllByRecursion (λ n. n ≡ 0) xs → AllByRecursion (λ n. n ≡ 0) (slice_set xs i 0)
set_zero [] i all = tt
set_zero (x ∷ xs) zero all = (refl, all.1)
set_zero (x ∷ xs) (suc i) all = (all.0, set_zero xs i all.1)

-- the reset of the votes
record IsReset (s t : PlainState) : Type 0 where
  votes : length t.eth1_data_votes ≤ length s.eth1_data_votes
  no_votes : (get_current_epoch s + 1) % s.preset.epochs_per_eth1_voting_period ≡ 0 → t.eth1_data_votes ≡ []
  rest : t ≡ record s { eth1_data_votes = t.eth1_data_votes }

reset_is : (s : PlainState) → IsReset s (process_eth1_data_reset s)
unfolding process_eth1_data_reset
reset_is s = elim (chosen ((get_current_epoch s + 1) % s.preset.epochs_per_eth1_voting_period == 0) (record s { eth1_data_votes = [] }) s _ refl) [
  | inl begins ↦ subst (IsReset s) begins.1 (record { votes = omega arith; no_votes = λ h. refl; rest = refl })
  | inr goes_on ↦ subst (IsReset s) goes_on.1 (record { votes = omega arith; no_votes = λ h. absurd (eqb-false _ _ goes_on.0 h); rest = refl })
]

-- the last parts of a state that was paid and reset
last_parts : (s x y t : PlainState) → LeavesLists s x → AreNear (get_current_epoch s + 1) x → AllByRecursion (λ n. n ≡ 0) x.slashings → IsReset x y → IsRooted (process_randao_mixes_reset (process_slashings_reset y)) t
    → IsOver s (process_participation_record_updates t)
unfolding process_randao_mixes_reset process_slashings_reset process_participation_record_updates get_current_epoch
last_parts s x y t l near none reset rooted =
    let y_is = reset.rest in
    let t_is = rooted.state in
    let P : PlainState → Type 0 = λ (z : PlainState). IsOver s (record z { previous_epoch_attestations = z.current_epoch_attestations; current_epoch_attestations = [] }) in
    let few : length rooted.roots ≤ length x.historical_roots + 1 = subst (λ (z : PlainState). length rooted.roots ≤ length z.historical_roots + 1) y_is rooted.few in
    let old = ap (λ (r : List (List ℕ)). length r) l.historical in
    let old_votes = ap (λ (r : List Eth1Data). length r) l.votes in
    let resets = reset.votes in
    let epoch_is : get_current_epoch x ≡ get_current_epoch s = ap (λ (n : ℕ). n / x.preset.slots_per_epoch) l.leaves.slot ∙ ap (λ (p : Preset). s.slot / p.slots_per_epoch) l.leaves.preset in
    let slashed : AllByRecursion (λ n. n ≡ 0) y.slashings = subst (λ (z : PlainState). AllByRecursion (λ n. n ≡ 0) z.slashings) (sym y_is) none in
    subst P (sym t_is) (record {
      leaves = record {
        preset = ap (λ (z : PlainState). z.preset) y_is ∙ l.leaves.preset;
        slot = ap (λ (z : PlainState). z.slot) y_is ∙ l.leaves.slot;
        validators = ap (λ (z : PlainState). z.validators) y_is ∙ l.leaves.validators;
        eth1_data = ap (λ (z : PlainState). z.eth1_data) y_is ∙ l.leaves.eth1_data;
        index = ap (λ (z : PlainState). z.eth1_deposit_index) y_is ∙ l.leaves.index;
      };
      near = record {
        many = ap (λ (z : PlainState). length z.balances) y_is ∙ near.many;
        all = subst (λ (z : PlainState). AllByRecursion (IsNear (get_current_epoch s + 1)) z.balances) (sym y_is) near.all;
      };
      votes = omega arith;
      no_votes = λ h. reset.no_votes (ap (λ (n : ℕ). (n + 1) % x.preset.epochs_per_eth1_voting_period) epoch_is ∙ (ap (λ (p : Preset). (get_current_epoch s + 1) % p.epochs_per_eth1_voting_period) l.leaves.preset ∙ h));
      slashings = set_zero y.slashings _ slashed;
      previous = ap (λ (z : PlainState). z.current_epoch_attestations) y_is ∙ l.current;
      current = refl;
      historical = omega arith;
    })

pub full_stays : (s t : PlainState) → t.validators ≡ s.validators → IsFullRegistry s → IsFullRegistry t
full_stays s t e full = record { many = ap length e ∙ full.many; all = subst (AllByRecursion IsFull) (sym e) full.all }

pub epoch_stays : (s t : PlainState) → t.preset ≡ s.preset → t.slot ≡ s.slot → get_current_epoch t ≡ get_current_epoch s
unfolding get_current_epoch
epoch_stays s t preset slot = ap (λ (n : ℕ). n / t.preset.slots_per_epoch) slot ∙ ap (λ (p : Preset). s.slot / p.slots_per_epoch) preset

previous_stays : (s t : PlainState) → get_current_epoch t ≡ get_current_epoch s → get_previous_epoch t ≡ get_previous_epoch s
unfolding get_previous_epoch
previous_stays s t e = ap (λ (n : ℕ). n - 1) e

-- a state whose epoch may end
pub record IsEnding (config : ConfigValues) (s : PlainState) : Type 0 where
  pub bounds : HasPresetBounds s.preset
  pub ejection : config.ejection_balance < 32_000_000_000
  pub sound : IsSound s
  pub registry : IsFullRegistry s
  pub early : get_current_epoch s ≤ 31
  pub near : AreNear (get_current_epoch s) s
  pub slashings : AllByRecursion (λ n. n ≡ 0) s.slashings
  pub historical : length s.historical_roots ≤ 32

roots_of : {config : ConfigValues} (s r z u : PlainState) → IsEnding config s → LeavesLists s r → IsReset r z → u ≡ z → Gives (IsRooted (process_randao_mixes_reset (process_slashings_reset u))) (process_historical_roots_update (process_randao_mixes_reset (process_slashings_reset u)))
unfolding process_randao_mixes_reset process_slashings_reset
roots_of s r z u e l reset u_is =
    let e_few = e.historical in
    let same : u.historical_roots ≡ s.historical_roots = ap (λ (x : PlainState). x.historical_roots) (u_is ∙ reset.rest) ∙ l.historical in
    let preset : u.preset ≡ s.preset = ap (λ (x : PlainState). x.preset) (u_is ∙ reset.rest) ∙ l.leaves.preset in
    let few : length u.historical_roots ≡ length s.historical_roots = ap (λ (x : List (List ℕ)). length x) same in
    roots_give (process_randao_mixes_reset (process_slashings_reset u)) (subst HasPresetBounds (sym preset) e.bounds) (omega arith)

-- process_epoch
pub epoch_gives : (config : ConfigValues) (s : PlainState) → IsEnding config s → Gives (IsOver s) (process_epoch s config)
unfolding process_epoch
epoch_gives config s e =
    let early = e.early in
    let weighed = justification_gives s e.bounds e.registry (omega arith) in
    gives_then (λ j. j ≡ weighed.value) (IsOver s) (process_justification_and_finalization s) _ (is_gives weighed.value _ weighed.is) (λ j j_is.
    let w : IsWeighed s j = subst (IsWeighed s) (sym j_is) weighed.holds in
    let l = weighed_leaves s j w in
    let within : IsSoundWithinEpoch j = justification_sound s j (weighed.is ∙ ap done (sym j_is)) e.sound in
    let bounds : HasPresetBounds j.preset = subst HasPresetBounds (sym l.0.leaves.preset) e.bounds in
    let full : IsFullRegistry j = full_stays s j l.0.leaves.validators e.registry in
    let at : get_current_epoch j ≡ get_current_epoch s = epoch_stays s j l.0.leaves.preset l.0.leaves.slot in
    let near : AreNear (get_current_epoch j) j = record { many = ap (λ (b : List ℕ). length b) l.1 ∙ e.near.many; all = subst (λ (n : ℕ). AllByRecursion (IsNear n) j.balances) (sym at) (subst (λ (b : List ℕ). AllByRecursion (IsNear (get_current_epoch s)) b) (sym l.1) e.near.all) } in
    gives_then (IsPaid j) (IsOver s) (process_rewards_and_penalties j) _ (rewards_give j (record { bounds = bounds; full = full; early = omega arith; finalized = within.finalized }) near) (λ r paid.
    let lr = paid_leaves s j r l.0 paid in
    let r_bounds : HasPresetBounds r.preset = subst HasPresetBounds (sym lr.leaves.preset) e.bounds in
    let r_full : IsFullRegistry r = full_stays s r lr.leaves.validators e.registry in
    let r_at : get_current_epoch r ≡ get_current_epoch s = epoch_stays s r lr.leaves.preset lr.leaves.slot in
    let r_near : AreNear (get_current_epoch s + 1) r = subst (λ (n : ℕ). AreNear (n + 1) r) at paid.near in
    let r_none : AllByRecursion (λ n. n ≡ 0) r.slashings = subst (AllByRecursion (λ n. n ≡ 0)) (sym lr.slashings) e.slashings in
    gives_then (λ x. x ≡ r) (IsOver s) (process_registry_updates r config) _ (is_gives r _ (registry_stays config r r_bounds e.ejection r_full (omega arith))) (λ x x_is.
    gives_then (λ y. y ≡ r) (IsOver s) (process_slashings x) _ (is_gives r _ (ap process_slashings x_is ∙ slashings_stay r r_bounds r_full (omega arith) r_near.many r_none)) (λ y y_is.
    let z : PlainState = process_eth1_data_reset y in
    let reset : IsReset r z = subst (λ (u : PlainState). IsReset r (process_eth1_data_reset u)) (sym y_is) (reset_is r) in
    let z_is = reset.rest in
    let z_preset : z.preset ≡ r.preset = ap (λ (u : PlainState). u.preset) z_is in
    let z_near : AreNear (get_current_epoch s + 1) z = record { many = ap (λ (u : PlainState). length u.balances) z_is ∙ r_near.many; all = subst (λ (u : PlainState). AllByRecursion (IsNear (get_current_epoch s + 1)) u.balances) (sym z_is) r_near.all } in
    gives_then (λ u. u ≡ z) (IsOver s) (process_effective_balance_updates z) _ (is_gives z _ (effective_balances_stay z (get_current_epoch s + 1) (subst HasPresetBounds (sym z_preset) r_bounds) (full_stays r z (ap (λ (u : PlainState). u.validators) z_is) r_full) z_near (omega arith))) (λ u u_is.
    let m : PlainState = process_randao_mixes_reset (process_slashings_reset u) in
    gives_then (IsRooted m) (IsOver s) (process_historical_roots_update m) _ (roots_of s r z u e lr reset u_is) (λ t rooted.
    gives_done (IsOver s) (process_participation_record_updates t)
    (last_parts s r u t lr r_near r_none (subst (IsReset r) (sym u_is) reset) rooted)))))))
