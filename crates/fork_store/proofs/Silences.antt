-- Equivocating validators in the store are silenced ones in its array.
use Rattle.std.proofs.Common.{◌≡◌, ◌∙◌, ◌<◌, ◌≤◌, ℕ, suc, ◌+◌, Bool, true, false, cond, eqb, max, List, [], ◌∷◌, ◌++◌, length, take, drop, fold, get_or, append-nil, Option, None, Result, Ok, Err, refl, sym, ap, subst, arith}
use Rattle.std.specs.List.{list_any}
use Rattle.std.proofs.lemmas.List.{drop_all, take_all}
use Rattle.std.proofs.lemmas.List.Elements.{filter_more}
use Rattle.std.proofs.Math.Seq.{drop-cons}
use Rattle.bc_words.specs.Indices.{with_index}
use Rattle.bc_words.specs.Outcome.{Outcome, done, refused, bind, Stops, Gives, GivesExactly}
use Rattle.bc_words.specs.Events.{accepted, store_stop, StoreStops}
use Rattle.bc_words.specs.declared.stop.Stop.{Stop}
use Rattle.bc_words.specs.declared.stop.Stop.TheVariants as stops
use Rattle.bc_words.specs.declared.refusal.Refusal.TheVariants.{IndexRange, AsData}
use Rattle.bc_words.proofs.Outcomes.{stops_bound}
use Rattle.beacon_types.specs.Slashable.{is_slashable_attestation_data}
use Rattle.beacon_types.specs.declared.attester_slashing.AttesterSlashing.{AttesterSlashing}
use Rattle.block_array.specs.PlainArray.{PlainArray}
use Rattle.block_array.specs.PlainArray as plain_array
use Rattle.block_array.specs.Calls.{with_spare}
use Rattle.block_array.specs.Silence.{silenced, silence}
use Rattle.spec_state.specs.declared.plain.PlainState.{PlainState}
use Rattle.spec_blocks.specs.Checks.{check}
use Rattle.spec_blocks.specs.IsValidIndexedAttestation.{is_valid_indexed_attestation}
use Rattle.spec_blocks.specs.ProcessAttesterSlashing.{in_both}
use Rattle.spec_fork_choice.specs.Store.{KeptBlock, Store, block_of, is_equivocating}
use Rattle.spec_fork_choice.specs.StoreTargetCheckpointState.{kept_or, state_at, store_target_checkpoint_state}
use Rattle.spec_fork_choice.specs.OnAttesterSlashing.{with_equivocating, on_attester_slashing}
use Rattle.fork_store.specs.Arrays.{node_number, messages_at, balances_at, IsArrayOf}
use Rattle.fork_store.specs.inside.ArrayVotes.{silenced_array}
use Rattle.fork_store.specs.inside.Keepers.{IsStateBehind}
use Rattle.fork_store.specs.inside.Messages.{AllBelow}
use Rattle.fork_store.specs.inside.Slashings.{check_indices, check_registered, judged_slashing}
use Rattle.fork_store.specs.inside.Votes.{event_of}
use Rattle.fork_store.proofs.ArraysMessages.{chosen}
use Rattle.fork_store.proofs.ArraysSteps.{keeps_spare}
use Rattle.fork_store.proofs.ArraysVotes.{same_silenced}
use Rattle.fork_store.proofs.Finds.{block_missed}
use Rattle.fork_store.proofs.Messages.{all_marked}
use Rattle.fork_store.proofs.Votes.{assoc, same_next, stops_event}
use Rattle.fork_store.proofs.Voting.{store_taken, vote_made}

-- ---- one validator

module _ (store : Store) (a : PlainArray) (is : IsArrayOf store a) (validator : ℕ) where
  keeps_silenced : IsArrayOf (record store { equivocating_indices = with_index store.equivocating_indices validator }) (silenced a validator)
  unfolding silenced store_target_checkpoint_state state_at balances_at
  keeps_silenced = record {
    slots_per_epoch = is.slots_per_epoch;
    percent = is.percent;
    nodes = is.nodes;
    named = is.named;
    messages = is.messages;
    voted = is.voted;
    balances = is.balances;
    justified = is.justified;
    justified_node = is.justified_node;
    finalized = is.finalized;
    boosted_node = is.boosted_node;
    silenced = ap (λ indices. with_index indices validator) is.silenced;
  }

  keeps_silence : IsArrayOf (with_equivocating store validator) (silence a validator)
  unfolding with_equivocating silence
  keeps_silence = chosen (is_equivocating store validator) (plain_array.is_listed a.silenced_validators validator) _ _ _ _ (same_silenced store a is validator) is keeps_silenced

-- ---- some validators

pub keeps_silences : (store : Store) (a : PlainArray) → IsArrayOf store a → (validators : List ℕ) → IsArrayOf (fold with_equivocating store validators) (silenced_array a validators)
unfolding silenced_array
keeps_silences store a is [] = is
keeps_silences store a is (validator ∷ validators) = keeps_silences (with_equivocating store validator) (silence a validator) (keeps_silence store a is validator) validators

pub silences_begin : (a : PlainArray) (validators : List ℕ) → silenced_array a (drop 0 validators) ≡ silenced_array a validators
silences_begin a validators = refl

pub silences_step : (a : PlainArray) (validators : List ℕ) (i : ℕ) → i < length validators
    → silenced_array a (drop i validators) ≡ silenced_array (silence a (get_or validators i 0)) (drop (i + 1) validators)
unfolding silenced_array
silences_step a validators i inside =
    ap (silenced_array a) (drop-cons validators i 0 inside)
    ∙ ap (λ k. silenced_array (silence a (get_or validators i 0)) (drop k validators)) (let e : suc i ≡ i + 1 = omega arith in e)

pub silences_end : (a : PlainArray) (validators : List ℕ) (i : ℕ) → length validators ≤ i → silenced_array a (drop i validators) ≡ a
unfolding silenced_array
silences_end a validators i h = ap (silenced_array a) (drop_all i validators h)

spare_by : (yet : Bool) (a : PlainArray) (v : ℕ) → (cond yet a (silenced a v)).spare_validators ≡ a.spare_validators
unfolding silenced
spare_by true a v = refl
spare_by false a v = refl

pub silence_spare : (a : PlainArray) (v : ℕ) → (silence a v).spare_validators ≡ a.spare_validators
unfolding silence
silence_spare a v = spare_by (plain_array.is_listed a.silenced_validators v) a v

unset_by : (yet : Bool) (a : PlainArray) (v : ℕ) → (cond yet a (silenced a v)).balances_set ≡ a.balances_set
unfolding silenced
unset_by true a v = refl
unset_by false a v = refl

-- the mark that balances were set stays
pub silences_unset : (a : PlainArray) (validators : List ℕ) → (silenced_array a validators).balances_set ≡ a.balances_set
unfolding silenced_array silence
silences_unset a [] = refl
silences_unset a (v ∷ validators) = silences_unset (silence a v) validators ∙ unset_by (plain_array.is_listed a.silenced_validators v) a v

pub ruleset each_silences = (silences_begin, silences_step, silences_end, vote_made, silence_spare)

-- ---- all of them

module _ (store : Store) (a told : PlainArray) (places : ℕ) (is : IsArrayOf store a) (spare : told ≡ with_spare a places) where
  pub silences_fit : (indices : List ℕ) → AllBelow places indices → AllBelow told.spare_validators indices
  silences_fit indices all k inside = let s : told.spare_validators ≡ max a.spare_validators places = ap (λ (x : PlainArray). x.spare_validators) spare in let h = all k inside in omega (arith, s, h)

  module _ (new : PlainArray) (indices : List ℕ) (given : new ≡ silenced_array told indices) where
    silenced_is : IsArrayOf (fold with_equivocating store indices) new
    silenced_is = subst (IsArrayOf (fold with_equivocating store indices)) (sym given) (keeps_silences store told (subst (IsArrayOf store) (sym spare) (keeps_spare store a is places)) indices)

    pub store_silenced : (after : Store) → after ≡ record store { latest_messages = messages_at new.nodes new.latest_messages; equivocating_indices = new.silenced_validators } → after ≡ fold with_equivocating store indices
    store_silenced after taken = store_taken store (fold with_equivocating store indices) after new (all_marked store indices) silenced_is taken

    pub array_silenced : (after : Store) → after ≡ record store { latest_messages = messages_at new.nodes new.latest_messages; equivocating_indices = new.silenced_validators } → IsArrayOf after new
    array_silenced after taken = subst (λ (s : Store). IsArrayOf s new) (sym (store_silenced after taken)) silenced_is

-- ---- the indices in both lists

pub none_common : (second : List ℕ) → [] ≡ in_both [] second
unfolding in_both
none_common second = refl

pub more_common : (first second : List ℕ) (i : ℕ) → i < length first
    → in_both (take (i + 1) first) second ≡ in_both (take i first) second ++ cond (list_any (λ other. eqb other (get_or first i 0)) second) (get_or first i 0 ∷ []) []
unfolding in_both
more_common first second i inside = filter_more (λ index. list_any (λ other. eqb other index) second) first i 0 inside

pub common_more : (first second : List ℕ) (i : ℕ) (common next : List ℕ) → i < length first → common ≡ in_both (take i first) second
    → true ≡ list_any (λ other. eqb other (get_or first i 0)) second → next ≡ common ++ get_or first i 0 ∷ [] → next ≡ in_both (take (i + 1) first) second
common_more first second i common next inside so_far is more =
    more ∙ ap (λ xs. xs ++ get_or first i 0 ∷ []) so_far
    ∙ ap (λ b. in_both (take i first) second ++ cond b (get_or first i 0 ∷ []) []) is
    ∙ sym (more_common first second i inside)

pub common_less : (first second : List ℕ) (i : ℕ) (common : List ℕ) → i < length first → common ≡ in_both (take i first) second
    → false ≡ list_any (λ other. eqb other (get_or first i 0)) second → common ≡ in_both (take (i + 1) first) second
common_less first second i common inside so_far isnt =
    so_far ∙ sym (append-nil (in_both (take i first) second))
    ∙ ap (λ b. in_both (take i first) second ++ cond b (get_or first i 0 ∷ []) []) isnt
    ∙ sym (more_common first second i inside)

pub all_common : (first second : List ℕ) (i : ℕ) → length first ≤ i → in_both (take i first) second ≡ in_both first second
all_common first second i past = ap (λ xs. in_both xs second) (take_all i first past)

-- ---- the checks

module _ (store : Store) (slashing : AttesterSlashing) where
  abbrev root : List ℕ
  root = store.justified_checkpoint.root

  pub registered : (state : PlainState) → IsStateBehind store.blocks root state → check_registered store slashing ≡ check_indices state slashing
  unfolding check_registered kept_or
  registered state behind =
      ap (λ (o : Option KeptBlock). bind (kept_or IndexRange o) (λ k. check_indices k.state slashing)) behind.found
      ∙ ap (λ (s : PlainState). check_indices s slashing) behind.same

  pub unregistered : None ≡ node_number store.blocks root → check_registered store slashing ≡ refused IndexRange
  unfolding check_registered kept_or
  unregistered none = ap (λ (o : Option KeptBlock). bind (kept_or IndexRange o) (λ k. check_indices k.state slashing)) (sym (block_missed store.blocks root none))

  gives_exactly : {A : Type 0} (result : Result A Stop) (outcome : Outcome A) → GivesExactly result outcome → Gives result outcome
  gives_exactly (Ok x) outcome is = is
  gives_exactly (Err (stops.Refused why)) outcome is = is
  gives_exactly (Err (stops.Limit bound)) outcome is = is
  gives_exactly (Err stops.NoMemory) outcome is = tt

  pub gives_registered : (result : Result (Unit {0}) Stop) (state : PlainState) → IsStateBehind store.blocks root state → GivesExactly result (check_indices state slashing) → Gives result (check_registered store slashing)
  gives_registered result state behind is = subst (Gives result) (sym (registered state behind)) (gives_exactly result (check_indices state slashing) is)

  handled : bind (judged_slashing store slashing) (λ _. done (fold with_equivocating store (in_both slashing.attestation_1.attesting_indices slashing.attestation_2.attesting_indices))) ≡ on_attester_slashing store slashing
  unfolding judged_slashing check_registered check_indices on_attester_slashing
  handled =
      let update : Unit {0} → Outcome Store = λ _. done (fold with_equivocating store (in_both slashing.attestation_1.attesting_indices slashing.attestation_2.attesting_indices)) in
      assoc (check (is_slashable_attestation_data slashing.attestation_1.content slashing.attestation_2.content) AsData) _ update
      ∙ same_next (check (is_slashable_attestation_data slashing.attestation_1.content slashing.attestation_2.content) AsData) _ _ (λ _.
      assoc (kept_or IndexRange (block_of store.blocks store.justified_checkpoint.root)) _ update
      ∙ same_next (kept_or IndexRange (block_of store.blocks store.justified_checkpoint.root)) _ _ (λ justified.
      assoc (is_valid_indexed_attestation justified.state slashing.attestation_1) _ update))

  pub slashing_stops : (stop : Stop) → Stops stop (judged_slashing store slashing) → StoreStops (store_stop stop) (event_of (on_attester_slashing store slashing))
  slashing_stops stop e =
      stops_event stop (on_attester_slashing store slashing)
      (subst (Stops stop) handled (stops_bound stop (judged_slashing store slashing) (λ _. done (fold with_equivocating store (in_both slashing.attestation_1.attesting_indices slashing.attestation_2.attesting_indices))) e))

  pub slashing_done : (judged : Unit {0}) (indices : List ℕ) (new : Store) → judged_slashing store slashing ≡ done judged
      → indices ≡ in_both slashing.attestation_1.attesting_indices slashing.attestation_2.attesting_indices → new ≡ fold with_equivocating store indices → event_of (on_attester_slashing store slashing) ≡ accepted new
  slashing_done judged indices new e common is =
      ap event_of (sym handled ∙ ap (λ o. bind o (λ _. done (fold with_equivocating store (in_both slashing.attestation_1.attesting_indices slashing.attestation_2.attesting_indices)))) e)
      ∙ ap accepted (ap (fold with_equivocating store) (sym common) ∙ sym is)

pub ruleset common = (common_more, common_less, all_common)

pub ruleset slashing = (slashing_stops)
