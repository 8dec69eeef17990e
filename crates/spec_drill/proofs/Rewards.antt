-- Rewards and penalties on a made chain: nothing overflows, and no validator gains or loses much in an epoch.
use Rattle.std.proofs.Common.{◌≡◌, ◌∙◌, ℕ, zero, suc, ◌+◌, ◌-◌, ◌*◌, ◌/◌, ◌^◌, ◌<◌, ◌≤◌, Bool, ◌&&◌, ◌==◌, not, List, length, map, Option, Some, None, slice_index, if◌then◌else◌, refl, sym, ap, subst, arith}
use Rattle.spec_blocks.specs.Gives.{Gives}
use Rattle.spec_drill.specs.inside.Calm.{IsFull, IsFullRegistry, IsNear, AreNear}
use Rattle.std.specs.List.{range_with_len, AllByRecursion, filter, list_any}
use Rattle.std.proofs.lemmas.List.FromFn.{length-map-range_with_len}
use Rattle.std.proofs.Math.Nat.{div-le_of_le-mul, div-le_self, mul-le-mul_left}
use Rattle.bc_words.specs.Outcome.{Outcome, done, bind, checked_add, checked_sub, checked_mul}
use Rattle.bc_words.specs.SquareRoot.{integer_squareroot}
use Rattle.bc_preset.specs.laws.Bounds.{HasPresetBounds}
use Rattle.beacon_types.specs.declared.pending_attestation.PendingAttestation.{PendingAttestation}
use Rattle.spec_state.specs.declared.plain.PlainState.{PlainState}
use Rattle.spec_state.specs.Constants.{base_rewards_per_epoch}
use Rattle.spec_state.specs.Accessors.{get_current_epoch, get_previous_epoch, get_total_balance, get_total_active_balance, indices_from}
use Rattle.spec_blocks.specs.Checks.{item_at}
use Rattle.spec_epochs.specs.declared.deltas.Deltas.{Deltas}
use Rattle.spec_epochs.specs.Each.{validator_indices, checked_map, checked_total, is_among}
use Rattle.spec_epochs.specs.Helpers.{get_unslashed_attesting_indices, attests, get_matching_source_attestations, get_matching_target_attestations, get_matching_head_attestations}
use Rattle.spec_epochs.specs.GetBaseReward.{get_base_reward}
use Rattle.spec_epochs.specs.RewardHelpers.{get_proposer_reward, get_finality_delay, is_in_inactivity_leak, get_eligible_validator_indices}
use Rattle.spec_epochs.specs.GetAttestationComponentDeltas.{attester_reward, get_attestation_component_deltas}
use Rattle.spec_epochs.specs.GetInclusionDelayDeltas.{inclusion, is_proposer_of, delayed_reward, inclusion_delay_reward, get_inclusion_delay_deltas}
use Rattle.spec_epochs.specs.GetInactivityPenaltyDeltas.{absence_penalty, inactivity_penalty, get_inactivity_penalty_deltas}
use Rattle.spec_epochs.specs.GetSourceDeltas.{get_source_deltas}
use Rattle.spec_epochs.specs.GetTargetDeltas.{get_target_deltas}
use Rattle.spec_epochs.specs.GetHeadDeltas.{get_head_deltas}
use Rattle.spec_epochs.specs.GetAttestationDeltas.{sum_at, get_attestation_deltas}
use Rattle.spec_epochs.specs.ProcessRewardsAndPenalties.{rewarded_balance, process_rewards_and_penalties}
use Rattle.spec_blocks.proofs.Gives.{gives_done, gives_then, gives_if, gives_more, add_gives, sub_gives, mul_gives, item_gives}
use Rattle.spec_epochs.proofs.GivesEach.{Are, map_gives, total_gives}
use Rattle.spec_drill.proofs.Lists.{index_holds}
use Rattle.spec_drill.proofs.Registry.{few_pass, few_filtered, low_pass, low_filtered, all_are}
use Rattle.spec_drill.proofs.Totals.{total_active_is, base_is_low}
use Rattle.spec_drill.proofs.Totals as totals

-- a number that is at most another one
abbrev pub IsUpTo : ℕ → ℕ → Type 0
IsUpTo most n = n ≤ most

-- the states whose rewards are computed
pub record IsPaying (s : PlainState) : Type 0 where
  pub bounds : HasPresetBounds s.preset
  pub full : IsFullRegistry s
  pub early : get_current_epoch s ≤ 32
  pub finalized : s.finalized_checkpoint.epoch ≤ get_previous_epoch s

zeros : (start n : ℕ) → AllByRecursion (IsUpTo 0) (map (λ index. 0) (range_with_len start n))
zeros start zero = tt
zeros start (suc n) = (omega arith, zeros (start + 1) n)

pub few_attesters_of : (s : PlainState) → IsFullRegistry s → (attestations : List PendingAttestation) → length (get_unslashed_attesting_indices s attestations) ≤ 64
unfolding get_unslashed_attesting_indices
few_attesters_of s full attestations =
    let one : length (filter (λ index. list_any (attests s index) attestations) (indices_from (λ v. not v.slashed) 0 s.validators)) ≤ length (indices_from (λ v. not v.slashed) 0 s.validators) = few_filtered (λ index. list_any (attests s index) attestations) (indices_from (λ v. not v.slashed) 0 s.validators) in
    let two = few_pass (λ v. not v.slashed) 0 s.validators in
    let many = full.many in omega arith

module _ (s : PlainState) (paying : IsPaying s) where
  total_is : get_total_active_balance s ≡ done 2_048_000_000_000
  total_is = total_active_is s paying.bounds paying.full (let h = paying.early in omega arith)

  -- ---- the base reward

  base_gives : (index : ℕ) → index < 64 → Gives (IsUpTo 357_771) (get_base_reward s index)
  unfolding get_base_reward
  base_gives index less =
      gives_then (λ t. t ≡ 2_048_000_000_000) (IsUpTo 357_771) (get_total_active_balance s) _ (record { value = 2_048_000_000_000; is = total_is; holds = refl }) (λ total total_as.
      gives_then IsFull (IsUpTo 357_771) (item_at s.validators index) _ (item_gives IsFull s.validators index paying.full.all (let h = paying.full.many in omega arith)) (λ v full.
      let factor : s.preset.base_reward_factor ≡ 64 = paying.bounds.base_reward_factor in
      let product : v.effective_balance * s.preset.base_reward_factor ≡ 2_048_000_000_000 = ap (λ n. n * s.preset.base_reward_factor) full.effective ∙ ap (λ n. 32_000_000_000 * n) factor in
      gives_then (λ w. w ≡ v.effective_balance * s.preset.base_reward_factor) (IsUpTo 357_771) (checked_mul v.effective_balance s.preset.base_reward_factor) _ (mul_gives _ _ (omega arith)) (λ weighed weighed_is.
      gives_done (IsUpTo 357_771) (weighed / integer_squareroot total / base_rewards_per_epoch)
      (subst (λ n. n / integer_squareroot total / 4 ≤ 357_771) (sym (weighed_is ∙ product)) (subst (λ n. 2_048_000_000_000 / integer_squareroot n / 4 ≤ 357_771) (sym total_as) base_is_low)))))

  proposer_gives : (index : ℕ) → index < 64 → Gives (IsUpTo 44_721) (get_proposer_reward s index)
  unfolding get_proposer_reward
  proposer_gives index less =
      gives_then (IsUpTo 357_771) (IsUpTo 44_721) (get_base_reward s index) _ (base_gives index less) (λ base low.
      let eight : s.preset.proposer_reward_quotient ≡ 8 = paying.bounds.proposer_reward_quotient in
      gives_done (IsUpTo 44_721) (base / s.preset.proposer_reward_quotient) (subst (λ n. base / n ≤ 44_721) (sym eight) (omega arith)))

  -- ---- who is rewarded

  few_attesters : (attestations : List PendingAttestation) → length (get_unslashed_attesting_indices s attestations) ≤ 64
  few_attesters attestations = few_attesters_of s paying.full attestations

  low_attesters : (attestations : List PendingAttestation) → AllByRecursion (λ i. i < 64) (get_unslashed_attesting_indices s attestations)
  unfolding get_unslashed_attesting_indices
  low_attesters attestations = low_filtered (λ i. i < 64) _ (indices_from (λ v. not v.slashed) 0 s.validators) (low_pass (λ v. not v.slashed) 0 64 s.validators (let many = paying.full.many in omega arith))

  made : (P : ℕ → Type 0) (make : ℕ → Outcome ℕ) → ((i : ℕ) → i < 64 → Gives P (make i)) → Gives (Are P 64) (checked_map make (validator_indices s))
  unfolding validator_indices
  made P make each = subst (λ n. Gives (Are P 64) (checked_map make (range_with_len 0 n))) (sym paying.full.many) (map_gives P make 0 64 each)

  delay_gives : Gives (IsUpTo 32) (get_finality_delay s)
  unfolding get_finality_delay get_previous_epoch
  delay_gives =
      let early = paying.early in
      gives_more (λ d. d ≡ get_previous_epoch s - s.finalized_checkpoint.epoch) (IsUpTo 32) (checked_sub (get_previous_epoch s) s.finalized_checkpoint.epoch) (λ d is. omega arith)
      (sub_gives (get_previous_epoch s) s.finalized_checkpoint.epoch paying.finalized)

  leak_gives : Gives (λ b. Unit {0}) (is_in_inactivity_leak s)
  unfolding is_in_inactivity_leak
  leak_gives = gives_then (IsUpTo 32) (λ b. Unit {0}) (get_finality_delay s) _ delay_gives (λ d low. gives_done (λ b. Unit {0}) _ tt)

  -- ---- source, target and head

  -- what both lists of a component are at most
  record IsLittle (reward penalty : ℕ) (d : Deltas) : Type 0 where
    rewards : Are (IsUpTo reward) 64 d.rewards
    penalties : Are (IsUpTo penalty) 64 d.penalties

  attester_gives : (leak : Bool) (attesting total index : ℕ) → index < 64 → attesting ≤ 2_048_000_000_000 → total ≡ 2_048_000_000_000 → Gives (IsUpTo 357_771) (attester_reward s leak attesting total index)
  unfolding attester_reward
  attester_gives leak attesting total index less low is =
      let inc : s.preset.effective_balance_increment ≡ 1_000_000_000 = paying.bounds.effective_balance_increment in
      gives_then (IsUpTo 357_771) (IsUpTo 357_771) (get_base_reward s index) _ (base_gives index less) (λ base base_low.
      gives_if (IsUpTo 357_771) leak (done base) _ (λ h. gives_done (IsUpTo 357_771) base base_low) (λ h.
      let part : attesting / s.preset.effective_balance_increment ≤ 2048 = subst (λ n. attesting / n ≤ 2048) (sym inc) (omega arith) in
      let whole : total / s.preset.effective_balance_increment ≡ 2048 = subst (λ n. total / n ≡ 2048) (sym inc) (omega arith) in
      let product : base * (attesting / s.preset.effective_balance_increment) ≤ base * 2048 = mul-le-mul_left {m = attesting / s.preset.effective_balance_increment} {n = 2048} base part in
      gives_then (λ w. w ≡ base * (attesting / s.preset.effective_balance_increment)) (IsUpTo 357_771) (checked_mul base (attesting / s.preset.effective_balance_increment)) _ (mul_gives _ _ (omega arith)) (λ w w_is.
      gives_done (IsUpTo 357_771) (w / (total / s.preset.effective_balance_increment)) (subst (λ n. w / n ≤ 357_771) (sym whole) (omega arith)))))

  component_gives : (attestations : List PendingAttestation) → Gives (IsLittle 357_771 357_771) (get_attestation_component_deltas s attestations)
  unfolding get_attestation_component_deltas
  component_gives attestations =
      let attesters = get_unslashed_attesting_indices s attestations in
      let Goal : Deltas → Type 0 = IsLittle 357_771 357_771 in
      gives_then (λ t. t ≡ 2_048_000_000_000) Goal (get_total_active_balance s) _ (record { value = 2_048_000_000_000; is = total_is; holds = refl }) (λ total total_as.
      gives_then (λ b. Unit {0}) Goal (is_in_inactivity_leak s) _ leak_gives (λ leak any.
      gives_then (λ t. t ≤ 2_048_000_000_000) Goal (if leak then done 0 else get_total_balance s attesters) _
      (gives_if (λ t. t ≤ 2_048_000_000_000) leak (done 0) (get_total_balance s attesters) (λ h. gives_done (λ t. t ≤ 2_048_000_000_000) 0 (omega arith)) (λ h. totals.total_gives s attesters paying.bounds paying.full (few_attesters attestations))) (λ attesting low.
      gives_then (Are (IsUpTo 357_771) 64) Goal (checked_map _ (validator_indices s)) _
      (made (IsUpTo 357_771) (λ index. if is_among index (get_eligible_validator_indices s) && is_among index attesters then attester_reward s leak attesting total index else done 0) (λ i less.
      gives_if (IsUpTo 357_771) _ (attester_reward s leak attesting total i) (done 0) (λ h. attester_gives leak attesting total i less low total_as) (λ h. gives_done (IsUpTo 357_771) 0 (omega arith)))) (λ rewards rewards_low.
      gives_then (Are (IsUpTo 357_771) 64) Goal (checked_map _ (validator_indices s)) _
      (made (IsUpTo 357_771) (λ index. if is_among index (get_eligible_validator_indices s) && not (is_among index attesters) then get_base_reward s index else done 0) (λ i less.
      gives_if (IsUpTo 357_771) _ (get_base_reward s i) (done 0) (λ h. base_gives i less) (λ h. gives_done (IsUpTo 357_771) 0 (omega arith)))) (λ penalties penalties_low.
      gives_done Goal (record { rewards = rewards; penalties = penalties }) (record { rewards = rewards_low; penalties = penalties_low }))))))

  -- ---- inclusion

  -- the base reward and its proposer's part
  base_parts : (P : ℕ → Type 0) (index : ℕ) → index < 64 → (next : ℕ → ℕ → Outcome ℕ) → ((b p : ℕ) → b ≤ 357_771 → p ≤ b → Gives P (next b p)) → Gives P (bind (get_base_reward s index) (λ b. bind (get_proposer_reward s index) (λ p. next b p)))
  unfolding get_proposer_reward
  base_parts P index less next each =
      let base = base_gives index less in
      let q : ℕ = s.preset.proposer_reward_quotient in
      let part : base.value / q ≤ base.value = div-le_self base.value q in
      let there : Gives (λ b. b ≡ base.value) (get_base_reward s index) = record { value = base.value; is = base.is; holds = refl } in
      gives_then (λ b. b ≡ base.value) P (get_base_reward s index) _ there (λ b b_is.
      gives_then (λ p. p ≤ base.value) P (get_proposer_reward s index) _
      (gives_then (λ b. b ≡ base.value) (λ p. p ≤ base.value) (get_base_reward s index) (λ c. done (c / q)) there (λ c c_is.
      gives_done (λ p. p ≤ base.value) (c / q) (subst (λ n. n / q ≤ base.value) (sym c_is) part))) (λ p p_low.
      each b p (let h = base.holds in omega arith) (omega arith)))

  delayed_gives : (index : ℕ) (a : Option PendingAttestation) → index < 64 → Gives (IsUpTo 357_771) (delayed_reward s index a)
  unfolding delayed_reward
  delayed_gives index None less = gives_done (IsUpTo 357_771) 0 (omega arith)
  delayed_gives index (Some a) less =
      base_parts (IsUpTo 357_771) index less (λ b p. bind (checked_sub b p) (λ m. done (m / a.inclusion_delay))) (λ b p b_low p_low.
      gives_then (λ m. m ≡ b - p) (IsUpTo 357_771) (checked_sub b p) _ (sub_gives b p p_low) (λ m m_is.
      let over : m / a.inclusion_delay ≤ m = div-le_self m a.inclusion_delay in
      gives_done (IsUpTo 357_771) (m / a.inclusion_delay) (omega arith)))

  inclusion_gives : (attestations : List PendingAttestation) (index : ℕ) → index < 64 → Gives (IsUpTo 3_219_915) (inclusion_delay_reward s attestations index)
  unfolding inclusion_delay_reward checked_total
  inclusion_gives attestations index less =
      let attesters = get_unslashed_attesting_indices s attestations in
      let test : ℕ → Bool = λ attester. is_proposer_of index (inclusion s attestations attester) in
      let few : length (filter test attesters) ≤ 64 = let one = few_filtered test attesters in let two = few_attesters attestations in omega arith in
      gives_then (IsUpTo (0 + length (filter test attesters) * 44_721)) (IsUpTo 3_219_915) (checked_total (get_proposer_reward s) (filter test attesters)) _
      (total_gives (get_proposer_reward s) 44_721 (λ i. i < 64) (filter test attesters) 0 (low_filtered (λ i. i < 64) test attesters (low_attesters attestations)) proposer_gives (omega arith)) (λ as_proposer proposer_low.
      gives_then (IsUpTo 357_771) (IsUpTo 3_219_915) (if is_among index attesters then delayed_reward s index (inclusion s attestations index) else done 0) _
      (gives_if (IsUpTo 357_771) _ (delayed_reward s index (inclusion s attestations index)) (done 0) (λ h. delayed_gives index (inclusion s attestations index) less) (λ h. gives_done (IsUpTo 357_771) 0 (omega arith))) (λ as_attester attester_low.
      gives_more (λ c. c ≡ as_proposer + as_attester) (IsUpTo 3_219_915) (checked_add as_proposer as_attester) (λ c is. omega arith) (add_gives as_proposer as_attester (omega arith))))

  -- no penalties, or no rewards
  nothing_is : Are (IsUpTo 0) 64 (map (λ index. 0) (validator_indices s))
  unfolding validator_indices
  nothing_is = record { many = length-map-range_with_len (λ i. 0) 0 (length s.validators) ∙ paying.full.many; all = zeros 0 (length s.validators) }

  inclusions_give : Gives (IsLittle 3_219_915 0) (get_inclusion_delay_deltas s)
  unfolding get_inclusion_delay_deltas
  inclusions_give =
      let attestations = get_matching_source_attestations s (get_previous_epoch s) in
      gives_then (Are (IsUpTo 3_219_915) 64) (IsLittle 3_219_915 0) (checked_map (inclusion_delay_reward s attestations) (validator_indices s)) _
      (made (IsUpTo 3_219_915) (inclusion_delay_reward s attestations) (inclusion_gives attestations)) (λ rewards low.
      gives_done (IsLittle 3_219_915 0) (record { rewards = rewards; penalties = map (λ index. 0) (validator_indices s) }) (record { rewards = low; penalties = nothing_is }))

  -- ---- inactivity

  absence_gives : (index : ℕ) → index < 64 → Gives (IsUpTo 31_000) (absence_penalty s index)
  unfolding absence_penalty
  absence_gives index less =
      gives_then IsFull (IsUpTo 31_000) (item_at s.validators index) _ (item_gives IsFull s.validators index paying.full.all (let h = paying.full.many in omega arith)) (λ v full.
      gives_then (IsUpTo 32) (IsUpTo 31_000) (get_finality_delay s) _ delay_gives (λ delay low.
      let product : v.effective_balance * delay ≡ 32_000_000_000 * delay = ap (λ n. n * delay) full.effective in
      gives_then (λ w. w ≡ v.effective_balance * delay) (IsUpTo 31_000) (checked_mul v.effective_balance delay) _ (mul_gives _ _ (omega arith)) (λ w w_is.
      let q : ℕ = s.preset.inactivity_penalty_quotient in
      let least : 33_554_432 ≤ q = paying.bounds.least_inactivity_penalty_quotient in
      let enough : 31_000 * 33_554_432 ≤ 31_000 * q = mul-le-mul_left {m = 33_554_432} {n = q} 31_000 least in
      gives_done (IsUpTo 31_000) (w / q) (div-le_of_le-mul q (let turned : 31_000 * q ≡ q * 31_000 = omega arith in omega arith)))))

  inactive_gives : (attesters : List ℕ) (index : ℕ) → index < 64 → Gives (IsUpTo 1_462_084) (inactivity_penalty s attesters index)
  unfolding inactivity_penalty
  inactive_gives attesters index less =
      base_parts (IsUpTo 1_462_084) index less _ (λ b p b_low p_low.
      gives_then (λ m. m ≡ base_rewards_per_epoch * b) (IsUpTo 1_462_084) (checked_mul base_rewards_per_epoch b) _ (mul_gives base_rewards_per_epoch b (omega arith)) (λ all all_is.
      gives_then (λ m. m ≡ all - p) (IsUpTo 1_462_084) (checked_sub all p) _ (sub_gives all p (omega arith)) (λ penalty penalty_is.
      gives_then (IsUpTo 31_000) (IsUpTo 1_462_084) (if is_among index attesters then done 0 else absence_penalty s index) _
      (gives_if (IsUpTo 31_000) _ (done 0) (absence_penalty s index) (λ h. gives_done (IsUpTo 31_000) 0 (omega arith)) (λ h. absence_gives index less)) (λ more more_low.
      gives_more (λ c. c ≡ penalty + more) (IsUpTo 1_462_084) (checked_add penalty more) (λ c is. omega arith) (add_gives penalty more (omega arith))))))

  inactivity_gives : Gives (IsLittle 0 1_462_084) (get_inactivity_penalty_deltas s)
  unfolding get_inactivity_penalty_deltas
  inactivity_gives =
      let attesters = get_unslashed_attesting_indices s (get_matching_target_attestations s (get_previous_epoch s)) in
      let make : ℕ → Outcome ℕ = λ index. if is_among index (get_eligible_validator_indices s) then inactivity_penalty s attesters index else done 0 in
      gives_then (λ b. Unit {0}) (IsLittle 0 1_462_084) (is_in_inactivity_leak s) _ leak_gives (λ leak any.
      gives_then (Are (IsUpTo 1_462_084) 64) (IsLittle 0 1_462_084) (if leak then checked_map make (validator_indices s) else done (map (λ index. 0) (validator_indices s))) _
      (gives_if (Are (IsUpTo 1_462_084) 64) leak _ _
      (λ h. made (IsUpTo 1_462_084) make (λ i less. gives_if (IsUpTo 1_462_084) _ (inactivity_penalty s attesters i) (done 0) (λ h. inactive_gives attesters i less) (λ h. gives_done (IsUpTo 1_462_084) 0 (omega arith))))
      (λ h. gives_done (Are (IsUpTo 1_462_084) 64) _ (record { many = nothing_is.many; all = all_are (IsUpTo 0) (IsUpTo 1_462_084) _ (λ x low. omega arith) nothing_is.all }))) (λ penalties low.
      gives_done (IsLittle 0 1_462_084) (record { rewards = map (λ index. 0) (validator_indices s); penalties = penalties }) (record { rewards = nothing_is; penalties = low })))

  -- ---- all of them

  source_gives : Gives (IsLittle 357_771 357_771) (get_source_deltas s)
  unfolding get_source_deltas
  source_gives = component_gives (get_matching_source_attestations s (get_previous_epoch s))

  target_gives : Gives (IsLittle 357_771 357_771) (get_target_deltas s)
  unfolding get_target_deltas
  target_gives = component_gives (get_matching_target_attestations s (get_previous_epoch s))

  head_gives : Gives (IsLittle 357_771 357_771) (get_head_deltas s)
  unfolding get_head_deltas
  head_gives = component_gives (get_matching_head_attestations s (get_previous_epoch s))

  sum_gives : (a b c d : List ℕ) (w x y z i : ℕ) → Are (IsUpTo w) 64 a → Are (IsUpTo x) 64 b → Are (IsUpTo y) 64 c → Are (IsUpTo z) 64 d → i < 64 → w + x + y + z < 2 ^ 63 → Gives (IsUpTo (w + x + y + z)) (sum_at a b c d i)
  unfolding sum_at
  sum_gives a b c d w x y z i ha hb hc hd less low =
      let am = ha.many in let bm = hb.many in let cm = hc.many in let dm = hd.many in
      let al : slice_index a i ≤ w = index_holds (IsUpTo w) a i ha.all (omega arith) in
      let bl : slice_index b i ≤ x = index_holds (IsUpTo x) b i hb.all (omega arith) in
      let cl : slice_index c i ≤ y = index_holds (IsUpTo y) c i hc.all (omega arith) in
      let dl : slice_index d i ≤ z = index_holds (IsUpTo z) d i hd.all (omega arith) in
      gives_then (λ t. t ≡ slice_index a i + slice_index b i) (IsUpTo (w + x + y + z)) (checked_add (slice_index a i) (slice_index b i)) _ (add_gives _ _ (omega arith)) (λ two two_is.
      gives_then (λ t. t ≡ two + slice_index c i) (IsUpTo (w + x + y + z)) (checked_add two (slice_index c i)) _ (add_gives _ _ (omega arith)) (λ three three_is.
      gives_more (λ t. t ≡ three + slice_index d i) (IsUpTo (w + x + y + z)) (checked_add three (slice_index d i)) (λ t is. omega arith) (add_gives _ _ (omega arith))))

  deltas_give : Gives (IsLittle 4_293_228 2_535_397) (get_attestation_deltas s)
  unfolding get_attestation_deltas
  deltas_give =
      let Goal : Deltas → Type 0 = IsLittle 4_293_228 2_535_397 in
      gives_then (IsLittle 357_771 357_771) Goal (get_source_deltas s) _ source_gives (λ source s_low.
      gives_then (IsLittle 357_771 357_771) Goal (get_target_deltas s) _ target_gives (λ target t_low.
      gives_then (IsLittle 357_771 357_771) Goal (get_head_deltas s) _ head_gives (λ head h_low.
      gives_then (IsLittle 3_219_915 0) Goal (get_inclusion_delay_deltas s) _ inclusions_give (λ inclusion_delay d_low.
      gives_then (IsLittle 0 1_462_084) Goal (get_inactivity_penalty_deltas s) _ inactivity_gives (λ inactivity i_low.
      gives_then (Are (IsUpTo 4_293_228) 64) Goal (checked_map (sum_at source.rewards target.rewards head.rewards inclusion_delay.rewards) (validator_indices s)) _
      (made (IsUpTo 4_293_228) _ (λ i less. sum_gives source.rewards target.rewards head.rewards inclusion_delay.rewards 357_771 357_771 357_771 3_219_915 i s_low.rewards t_low.rewards h_low.rewards d_low.rewards less (omega arith))) (λ rewards r_low.
      gives_then (Are (IsUpTo 2_535_397) 64) Goal (checked_map (sum_at source.penalties target.penalties head.penalties inactivity.penalties) (validator_indices s)) _
      (made (IsUpTo 2_535_397) _ (λ i less. sum_gives source.penalties target.penalties head.penalties inactivity.penalties 357_771 357_771 357_771 1_462_084 i s_low.penalties t_low.penalties h_low.penalties i_low.penalties less (omega arith))) (λ penalties p_low.
      gives_done Goal (record { rewards = rewards; penalties = penalties }) (record { rewards = r_low; penalties = p_low }))))))))

  -- a balance after an epoch's rewards and penalties
  balance_gives : (epochs : ℕ) (deltas : Deltas) (i : ℕ) → epochs ≤ 32 → IsLittle 4_293_228 2_535_397 deltas → AreNear epochs s → i < 64 → Gives (IsNear (epochs + 1)) (rewarded_balance s deltas i)
  unfolding rewarded_balance
  balance_gives epochs deltas i few little near less =
      let nm = near.many in let rm = little.rewards.many in let pm = little.penalties.many in
      let gained : slice_index deltas.rewards i ≤ 4_293_228 = index_holds (IsUpTo 4_293_228) deltas.rewards i little.rewards.all (omega arith) in
      let lost : slice_index deltas.penalties i ≤ 2_535_397 = index_holds (IsUpTo 2_535_397) deltas.penalties i little.penalties.all (omega arith) in
      gives_then (IsNear epochs) (IsNear (epochs + 1)) (item_at s.balances i) _ (item_gives (IsNear epochs) s.balances i near.all (omega arith)) (λ balance is_near.
      let least = is_near.least in let most = is_near.most in
      gives_then (λ t. t ≡ balance + slice_index deltas.rewards i) (IsNear (epochs + 1)) (checked_add balance (slice_index deltas.rewards i)) _ (add_gives _ _ (omega arith)) (λ increased is.
      gives_done (IsNear (epochs + 1)) (increased - slice_index deltas.penalties i) (record { least = omega arith; most = omega arith })))

-- the state behind process_rewards_and_penalties: other balances
pub record IsPaid (s t : PlainState) : Type 0 where
  pub balances : List ℕ
  pub state : t ≡ record s { balances = balances }
  pub near : AreNear (get_current_epoch s + 1) t

pub rewards_give : (s : PlainState) → IsPaying s → AreNear (get_current_epoch s) s → Gives (IsPaid s) (process_rewards_and_penalties s)
unfolding process_rewards_and_penalties
rewards_give s paying near =
    let early = paying.early in
    let later : ℕ = get_current_epoch s + 1 in
    gives_if (IsPaid s) (get_current_epoch s == 0) (done s) _
    (λ first. gives_done (IsPaid s) s (record {
      balances = s.balances;
      state = refl;
      near = record { many = near.many; all = all_are (IsNear (get_current_epoch s)) (IsNear later) s.balances (λ b h. record { least = let l = h.least in omega arith; most = let m = h.most in omega arith }) near.all };
    }))
    (λ other.
    gives_then (IsLittle s paying 4_293_228 2_535_397) (IsPaid s) (get_attestation_deltas s) _ (deltas_give s paying) (λ deltas little.
    gives_then (Are (IsNear later) 64) (IsPaid s) (checked_map (rewarded_balance s deltas) (validator_indices s)) _
    (made s paying (IsNear later) (rewarded_balance s deltas) (λ i less. balance_gives s paying (get_current_epoch s) deltas i early little near less)) (λ balances are.
    gives_done (IsPaid s) (record s { balances = balances }) (record { balances = balances; state = refl; near = record { many = are.many; all = are.all } }))))
