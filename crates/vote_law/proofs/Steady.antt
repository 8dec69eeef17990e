-- At the end of an epoch whose validators are those of genesis, justification is weighed by the weights of genesis.
use Rattle.std.proofs.Common.{◌≡◌, ◌∙◌, ℕ, ◌<◌, inl, inr, leb, List, ap, subst, arith}
use Rattle.std.proofs.lemmas.Bool.{leb-true}
use Rattle.bc_words.specs.Outcome.{done}
use Rattle.bc_preset.specs.declared.presets.Preset.{Preset}
use Rattle.bc_preset.specs.laws.Bounds.{HasPresetBounds}
use Rattle.spec_state.specs.declared.plain.PlainState.{PlainState}
use Rattle.spec_state.specs.Accessors.{get_current_epoch, get_previous_epoch, get_active_validator_indices, get_block_root, get_total_active_balance}
use Rattle.spec_blocks.proofs.Done.{on_the_way, chosen, same_value}
use Rattle.spec_epochs.specs.Weigh.{weigh}
use Rattle.spec_epochs.specs.Helpers.{get_matching_target_attestations, get_unslashed_attesting_indices, get_attesting_balance}
use Rattle.spec_epochs.specs.WeighJustificationAndFinalization.{justification_of, with_justification, weigh_justification_and_finalization}
use Rattle.spec_epochs.specs.ProcessJustificationAndFinalization.{process_justification_and_finalization}
use Rattle.ffg_law.specs.Histories.{total_of, total_of_all, IsWeighed}
use Rattle.ffg_law.specs.Links.{IsOneOf}
use Rattle.vote_law.specs.Backed.{Votes, IsBacked}
use Rattle.spec_forensics.specs.Steady.{genesis_weights, IsSteadyIn, IsSteadyAt}
use Rattle.vote_law.specs.Ends.{target_attesters, end_of}
use Rattle.vote_law.proofs.GenesisWeights.{steady_total, steady_total_of_all}
use Rattle.vote_law.proofs.Voters.{unslashed_ascend, current_voter, previous_voter}

attesting_is : (genesis s : PlainState) (epoch n : ℕ) → IsSteadyIn genesis s epoch → ((i : ℕ) → IsOneOf i (target_attesters s epoch) → IsOneOf i (get_active_validator_indices s epoch))
    → get_attesting_balance s (get_matching_target_attestations s epoch) ≡ done n → n ≡ total_of s.preset.effective_balance_increment (genesis_weights genesis) (target_attesters s epoch)
unfolding get_attesting_balance target_attesters
attesting_is genesis s epoch n steady active is =
    let attestations = get_matching_target_attestations s epoch in
    steady_total genesis s epoch steady (get_unslashed_attesting_indices s attestations) n (unslashed_ascend s attestations) active is

after_is : (s t : PlainState) (total previous current : ℕ) → weigh_justification_and_finalization s total previous current ≡ done t
    → weigh (justification_of s) (get_current_epoch s) (get_block_root s (get_previous_epoch s)) (get_block_root s (get_current_epoch s)) total previous current ≡ done (justification_of t)
unfolding weigh_justification_and_finalization with_justification justification_of
after_is s t total previous current is =
    let weighed = on_the_way (weigh (justification_of s) (get_current_epoch s) (get_block_root s (get_previous_epoch s)) (get_block_root s (get_current_epoch s)) total previous current) _ t is in
    weighed.first ∙ ap (λ (x : PlainState). done (justification_of x)) (same_value (with_justification s weighed.value) t weighed.then_done)

-- the end of an epoch is weighed by the weights of genesis
pub steady_weighed : (votes : Votes) (genesis s t : PlainState) → process_justification_and_finalization s ≡ done t → 1 < get_current_epoch s → HasPresetBounds s.preset → s.preset ≡ genesis.preset → IsSteadyAt genesis s → IsBacked votes s
    → IsWeighed genesis.preset.effective_balance_increment (genesis_weights genesis) (end_of s (justification_of t))
unfolding process_justification_and_finalization
steady_weighed votes genesis s t is late bounds preset steady backed = elim (chosen (leb (get_current_epoch s) 1) _ _ _ is) [
  | inl first ↦ absurd (let low = leb-true (get_current_epoch s) 1 first.0 in omega arith)
  | inr later ↦
      let total = on_the_way (get_total_active_balance s) _ t later.1 in
      let previous = on_the_way (get_attesting_balance s (get_matching_target_attestations s (get_previous_epoch s))) _ t total.then_done in
      let current = on_the_way (get_attesting_balance s (get_matching_target_attestations s (get_current_epoch s))) _ t previous.then_done in
      let w : List ℕ = genesis_weights genesis in
      let all = steady_total_of_all genesis s (get_current_epoch s) steady.current total.value total.first in
      let before = attesting_is genesis s (get_previous_epoch s) previous.value steady.previous (λ i h. (previous_voter votes s i bounds late backed h).active) previous.first in
      let now = attesting_is genesis s (get_current_epoch s) current.value steady.current (λ i h. (current_voter votes s i bounds backed h).active) current.first in
      let weighs = after_is s t total.value previous.value current.value current.then_done in
      let W : ℕ → ℕ → ℕ → Type 0 = λ (a p c : ℕ). weigh (justification_of s) (get_current_epoch s) (get_block_root s (get_previous_epoch s)) (get_block_root s (get_current_epoch s)) a p c ≡ done (justification_of t) in
      subst (λ (p : Preset). W (total_of_all p.effective_balance_increment w) (total_of p.effective_balance_increment w (target_attesters s (get_previous_epoch s))) (total_of p.effective_balance_increment w (target_attesters s (get_current_epoch s)))) preset
      (subst (λ (c : ℕ). W (total_of_all s.preset.effective_balance_increment w) (total_of s.preset.effective_balance_increment w (target_attesters s (get_previous_epoch s))) c) now
      (subst (λ (p : ℕ). W (total_of_all s.preset.effective_balance_increment w) p current.value) before
      (subst (λ (a : ℕ). W a previous.value current.value) all weighs)))
]
