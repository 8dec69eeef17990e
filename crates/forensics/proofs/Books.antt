-- A book stays one when a block is added.
use Rattle.std.proofs.Common.{◌≡◌, ◌∙◌, ℕ, zero, suc, ◌<◌, ◌^◌, ◌==◌, None, inl, inr, List, [], ◌∷◌, ◌++◌, map, length, if◌then◌else◌, refl, sym, ap, subst, arith, append_assoc}
use Rattle.std.specs.List.{All}
use Rattle.std.proofs.lemmas.List.{append-nil}
use Rattle.std.proofs.lemmas.List.Elements.{Contains-append_right}
use Rattle.bc_preset.specs.Presets.{IsPreset}
use Rattle.bc_preset.proofs.Bounds.{preset_bounds}
use Rattle.bc_preset.specs.declared.configuration.ConfigValues.{ConfigValues}
use Rattle.beacon_types.specs.declared.checkpoint.Checkpoint.{Checkpoint}
use Rattle.beacon_types.specs.declared.attestation.Attestation.{Attestation}
use Rattle.beacon_types.specs.declared.block.BeaconBlock.{BeaconBlock}
use Rattle.spec_state.specs.declared.plain.PlainState.{PlainState}
use Rattle.spec_forensics.specs.CarriedVotes.{WasProcessed}
use Rattle.spec_forensics.specs.Histories.{AcceptedBlock, IsStepOn, chain_to, state_behind}
use Rattle.spec_forensics.specs.Clash.{clash_with}
use Rattle.spec_forensics.proofs.Within.{transition_processed}
use Rattle.safety_law.specs.Finals.{IsFinalOf}
use Rattle.safety_law.specs.Histories.{Begins}
use Rattle.safety_law.proofs.Growing.{none_yet, first_grows, second_grows}
use Rattle.forensics.specs.Carried.{Carried, Held, Holds}
use Rattle.forensics.specs.Books.{PlainBook, IsBeginning, genesis_checkpoint, begun, history_of, with_block, with_finalized}
use Rattle.forensics.specs.inside.BlockVotes.{attesters_in, carried_from, carried_by_block, carried_by}
use Rattle.forensics.specs.inside.Whole.{PlainHistory, with_latest, with_first, with_second, closed_first, closed_second, carried_in, IsBook, seen_of}

-- the state behind a block has the attesters of its attestations
pub processed : (config : ConfigValues) (genesis : PlainState) (earlier : List AcceptedBlock) (b : AcceptedBlock) → IsStepOn config genesis earlier b → IsPreset b.state.preset → b.state.slot < 2 ^ 64 → All (WasProcessed b.state) b.block.body.attestations
processed config genesis earlier b step preset low =
    subst (λ (block : BeaconBlock). All (WasProcessed b.state) block.body.attestations) step.message
    (transition_processed (state_behind genesis (chain_to earlier b.block.parent_root)) step.signed config (record { state = b.state; entered = b.entered }) step.step (preset_bounds b.state.preset preset) low)

-- ---- the votes

behind_first : (first : List AcceptedBlock) (b : AcceptedBlock) → carried_in first [] ++ carried_by_block 0 b ≡ carried_in (b ∷ first) []
unfolding carried_in carried_by
behind_first first b = ap (λ (xs : List Carried). xs ++ carried_by_block 0 b) (append-nil (carried_by 0 first)) ∙ sym (append-nil (carried_by 0 first ++ carried_by_block 0 b))

behind_second : (first second : List AcceptedBlock) (b : AcceptedBlock) → carried_in first second ++ carried_by_block 1 b ≡ carried_in first (b ∷ second)
unfolding carried_in carried_by
behind_second first second b = append_assoc (carried_by 0 first) (carried_by 1 second) (carried_by_block 1 b)

-- what adding the attestations of a block to held votes comes to
pub record AreAdded (which : ℕ) (b : AcceptedBlock) (lists : List (List ℕ)) (votes now : Held) : Type 0 where
  pub attesters : lists ≡ map (attesters_in b.state) b.block.body.attestations
  pub holds : (before : List Carried) → Holds votes before → Holds now (before ++ carried_from which b.event b.root 0 b.block.body.attestations lists)
  pub count : length now.spans.spans ≡ length votes.spans.spans

pub are_added : (which : ℕ) (b : AcceptedBlock) (attestations : List Attestation) (lists shown : List (List ℕ)) (votes reserved now : Held) → attestations ≡ b.block.body.attestations → shown ≡ lists → lists ≡ map (attesters_in b.state) attestations
    → ((before : List Carried) → Holds votes before → Holds reserved before) → length reserved.spans.spans ≡ length votes.spans.spans
    → ((before : List Carried) → Holds reserved before → Holds now (before ++ carried_from which b.event b.root 0 attestations shown)) → length now.spans.spans ≡ length reserved.spans.spans → AreAdded which b lists votes now
are_added which b attestations lists shown votes reserved now body same are kept kept_count added count = record {
  attesters = are ∙ ap (map (attesters_in b.state)) body;
  holds = λ before holds.
      subst (λ (xs : List Attestation). Holds now (before ++ carried_from which b.event b.root 0 xs lists)) body
      (subst (λ (ls : List (List ℕ)). Holds now (before ++ carried_from which b.event b.root 0 attestations ls)) same (added before (kept before holds)));
  count = count ∙ kept_count;
}

of_block : (which : ℕ) (b : AcceptedBlock) (lists : List (List ℕ)) (votes now : Held) → AreAdded which b lists votes now → (before : List Carried) → Holds votes before → Holds now (before ++ carried_by_block which b)
unfolding carried_by_block
of_block which b lists votes now are before holds =
    subst (λ (ls : List (List ℕ)). Holds now (before ++ carried_from which b.event b.root 0 b.block.body.attestations ls)) are.attesters (are.holds before holds)

-- ---- the book

step_there : (config : ConfigValues) (genesis : PlainState) (view : PlainBook) (which : ℕ) (b : AcceptedBlock) (first second : PlainHistory) → seen_of config genesis first second ≡ view
    → IsStepOn view.config view.genesis (history_of view which) b → IsStepOn config genesis (if which == 0 then first.blocks else second.blocks) b
unfolding history_of
step_there config genesis view which b first second is = subst (λ (v : PlainBook). IsStepOn v.config v.genesis (if which == 0 then v.first else v.second) b) (sym is)

-- what a history finalised stays so
final_still : (genesis : PlainState) (b : AcceptedBlock) (history : List AcceptedBlock) (finalized : Checkpoint) → IsFinalOf genesis history finalized → IsFinalOf genesis (b ∷ history) finalized
final_still genesis b history finalized (inl begins) = inl begins
final_still genesis b history finalized (inr is) = inr (record { by = is.by; listed = Contains-append_right (b ∷ []) history is.by is.listed; is = is.is })

grows : (config : ConfigValues) (genesis : PlainState) (first second : PlainHistory) (votes now : Held) (which : ℕ) (b : AcceptedBlock) (lists : List (List ℕ)) → IsBook config genesis first second votes → which < 2 → (which ≡ 0 → second.blocks ≡ [])
    → IsStepOn config genesis (if which == 0 then first.blocks else second.blocks) b → clash_with genesis first.blocks second.blocks b.root b.block ≡ None → AreAdded which b lists votes now
    → IsBook config genesis (with_first which first b) (with_second which second b) now
unfolding with_first with_second with_latest
grows config genesis first second votes now zero b lists is low order step clear are = record {
  first_genesis = is.first_genesis;
  second_genesis = is.second_genesis;
  beginning = is.beginning;
  histories = first_grows config genesis first.blocks second.blocks b is.histories step clear;
  first_final = final_still genesis b first.blocks first.finalized is.first_final;
  second_final = is.second_final;
  holds =
      let none : second.blocks ≡ [] = order refl in
      subst (λ (xs : List AcceptedBlock). Holds now (carried_in (b ∷ first.blocks) xs)) (sym none)
      (subst (Holds now) (behind_first first.blocks b) (of_block 0 b lists votes now are (carried_in first.blocks []) (subst (λ (xs : List AcceptedBlock). Holds votes (carried_in first.blocks xs)) none is.holds)));
  validators = are.count ∙ is.validators;
}
grows config genesis first second votes now (suc zero) b lists is low order step clear are = record {
  first_genesis = is.first_genesis;
  second_genesis = is.second_genesis;
  beginning = is.beginning;
  histories = second_grows config genesis first.blocks second.blocks b is.histories step clear;
  first_final = is.first_final;
  second_final = final_still genesis b second.blocks second.finalized is.second_final;
  holds = subst (Holds now) (behind_second first.blocks second.blocks b) (of_block 1 b lists votes now are (carried_in first.blocks second.blocks) is.holds);
  validators = are.count ∙ is.validators;
}
grows config genesis first second votes now (suc (suc n)) b lists is low order step clear are = absurd (omega arith)

-- ---- the same, as code comes by it

pub book_grows : (config : ConfigValues) (genesis : PlainState) (view : PlainBook) (first second first_now second_now : PlainHistory) (votes now : Held) (which : ℕ) (b : AcceptedBlock) (lists : List (List ℕ))
    → seen_of config genesis first second ≡ view → IsBook config genesis first second votes → which < 2 → (which ≡ 0 → view.second ≡ [])
    → IsStepOn view.config view.genesis (history_of view which) b → clash_with view.genesis view.first view.second b.root b.block ≡ None → AreAdded which b lists votes now → first_now ≡ with_first which first b → second_now ≡ with_second which second b
    → IsBook config genesis first_now second_now now
book_grows config genesis view first second first_now second_now votes now which b lists shown is low order step clear are one other =
    subst (λ (h : PlainHistory). IsBook config genesis h second_now now) (sym one)
    (subst (λ (h : PlainHistory). IsBook config genesis (with_first which first b) h now) (sym other)
    (grows config genesis first second votes now which b lists is low (λ e. ap (λ (v : PlainBook). v.second) shown ∙ order e) (step_there config genesis view which b first second shown step) (ap (λ (v : PlainBook). clash_with v.genesis v.first v.second b.root b.block) shown ∙ clear) are))

-- what is seen of it is the book with the block
seen_with : (config : ConfigValues) (genesis : PlainState) (first second : PlainHistory) (which : ℕ) (b : AcceptedBlock) → which < 2
    → seen_of config genesis (with_first which first b) (with_second which second b) ≡ with_block (seen_of config genesis first second) which b
unfolding with_first with_second with_latest with_block
seen_with config genesis first second zero b low = refl
seen_with config genesis first second (suc zero) b low = refl
seen_with config genesis first second (suc (suc n)) b low = absurd (omega arith)

pub seen_grown : (config : ConfigValues) (genesis : PlainState) (view : PlainBook) (first second first_now second_now : PlainHistory) (which : ℕ) (b : AcceptedBlock)
    → seen_of config genesis first second ≡ view → which < 2 → first_now ≡ with_first which first b → second_now ≡ with_second which second b
    → seen_of config genesis first_now second_now ≡ with_block view which b
seen_grown config genesis view first second first_now second_now which b shown low one other =
    ap (λ (h : PlainHistory). seen_of config genesis h second_now) one
    ∙ ap (λ (h : PlainHistory). seen_of config genesis (with_first which first b) h) other
    ∙ seen_with config genesis first second which b low
    ∙ ap (λ (v : PlainBook). with_block v which b) shown

-- ---- a history is closed

closes : (config : ConfigValues) (genesis : PlainState) (first second : PlainHistory) (votes : Held) (which : ℕ) (finalized : Checkpoint) → IsBook config genesis first second votes → which < 2 → IsFinalOf genesis (if which == 0 then first.blocks else second.blocks) finalized
    → IsBook config genesis (closed_first which first finalized) (closed_second which second finalized) votes
unfolding closed_first closed_second
closes config genesis first second votes zero finalized is low final = record {
  first_genesis = is.first_genesis;
  second_genesis = is.second_genesis;
  beginning = is.beginning;
  histories = is.histories;
  first_final = final;
  second_final = is.second_final;
  holds = is.holds;
  validators = is.validators;
}
closes config genesis first second votes (suc zero) finalized is low final = record {
  first_genesis = is.first_genesis;
  second_genesis = is.second_genesis;
  beginning = is.beginning;
  histories = is.histories;
  first_final = is.first_final;
  second_final = final;
  holds = is.holds;
  validators = is.validators;
}
closes config genesis first second votes (suc (suc n)) finalized is low final = absurd (omega arith)

final_there : (config : ConfigValues) (genesis : PlainState) (view : PlainBook) (which : ℕ) (finalized : Checkpoint) (first second : PlainHistory) → seen_of config genesis first second ≡ view
    → IsFinalOf view.genesis (history_of view which) finalized → IsFinalOf genesis (if which == 0 then first.blocks else second.blocks) finalized
unfolding history_of
final_there config genesis view which finalized first second is = subst (λ (v : PlainBook). IsFinalOf v.genesis (if which == 0 then v.first else v.second) finalized) (sym is)

pub book_closes : (config : ConfigValues) (genesis : PlainState) (view : PlainBook) (first second first_now second_now : PlainHistory) (votes : Held) (which : ℕ) (finalized : Checkpoint) → seen_of config genesis first second ≡ view
    → IsBook config genesis first second votes → which < 2 → IsFinalOf view.genesis (history_of view which) finalized
    → first_now ≡ closed_first which first finalized → second_now ≡ closed_second which second finalized → IsBook config genesis first_now second_now votes
book_closes config genesis view first second first_now second_now votes which finalized shown is low final one other =
    subst (λ (h : PlainHistory). IsBook config genesis h second_now votes) (sym one)
    (subst (λ (h : PlainHistory). IsBook config genesis (closed_first which first finalized) h votes) (sym other)
    (closes config genesis first second votes which finalized is low (final_there config genesis view which finalized first second shown final)))

seen_to_close : (config : ConfigValues) (genesis : PlainState) (first second : PlainHistory) (which : ℕ) (finalized : Checkpoint) → which < 2
    → seen_of config genesis (closed_first which first finalized) (closed_second which second finalized) ≡ with_finalized (seen_of config genesis first second) which finalized
unfolding closed_first closed_second with_finalized
seen_to_close config genesis first second zero finalized low = refl
seen_to_close config genesis first second (suc zero) finalized low = refl
seen_to_close config genesis first second (suc (suc n)) finalized low = absurd (omega arith)

pub seen_closed : (config : ConfigValues) (genesis : PlainState) (view : PlainBook) (first second first_now second_now : PlainHistory) (which : ℕ) (finalized : Checkpoint)
    → seen_of config genesis first second ≡ view → which < 2 → first_now ≡ closed_first which first finalized → second_now ≡ closed_second which second finalized
    → seen_of config genesis first_now second_now ≡ with_finalized view which finalized
seen_closed config genesis view first second first_now second_now which finalized shown low one other =
    ap (λ (h : PlainHistory). seen_of config genesis h second_now) one
    ∙ ap (λ (h : PlainHistory). seen_of config genesis (closed_first which first finalized) h) other
    ∙ seen_to_close config genesis first second which finalized low
    ∙ ap (λ (v : PlainBook). with_finalized v which finalized) shown

-- ---- at the beginning

abbrev begun_history : PlainState → PlainHistory
begun_history genesis = record { genesis = genesis; blocks = []; finalized = genesis_checkpoint genesis }

pub opens : (config : ConfigValues) (genesis kept : PlainState) (first second : PlainHistory) (votes : Held) → IsBeginning genesis → Begins genesis → kept ≡ genesis → first ≡ begun_history genesis → second ≡ begun_history genesis
    → Holds votes [] → length votes.spans.spans ≡ length genesis.validators → IsBook config kept first second votes
unfolding carried_in carried_by genesis_checkpoint
opens config genesis kept first second votes begins begins_too shared one other holds count =
    subst (λ (g : PlainState). IsBook config g first second votes) (sym shared)
    (subst (λ (h : PlainHistory). IsBook config genesis h second votes) (sym one)
    (subst (λ (h : PlainHistory). IsBook config genesis (begun_history genesis) h votes) (sym other)
    (record { first_genesis = refl; second_genesis = refl; beginning = begins; histories = none_yet config genesis begins_too; first_final = inl refl; second_final = inl refl; holds = holds; validators = count })))

pub seen_begun : (config : ConfigValues) (genesis kept : PlainState) (first second : PlainHistory) → kept ≡ genesis → first ≡ begun_history genesis → second ≡ begun_history genesis → seen_of config kept first second ≡ begun config genesis
unfolding begun
seen_begun config genesis kept first second shared one other =
    ap (λ (g : PlainState). seen_of config g first second) shared
    ∙ ap (λ (h : PlainHistory). seen_of config genesis h second) one
    ∙ ap (λ (h : PlainHistory). seen_of config genesis (begun_history genesis) h) other

-- the states entered, as they are handed on
pub first_seen : (which event : ℕ) (root : List ℕ) (block : BeaconBlock) (state : PlainState) (seen entered : List PlainState) (first first_now : PlainHistory) → seen ≡ entered
    → first_now ≡ with_first which first (record { event = event; root = root; block = block; state = state; entered = seen }) → first_now ≡ with_first which first (record { event = event; root = root; block = block; state = state; entered = entered })
first_seen which event root block state seen entered first first_now same is = is ∙ ap (λ (states : List PlainState). with_first which first (record { event = event; root = root; block = block; state = state; entered = states })) same

pub second_seen : (which event : ℕ) (root : List ℕ) (block : BeaconBlock) (state : PlainState) (seen entered : List PlainState) (second second_now : PlainHistory) → seen ≡ entered
    → second_now ≡ with_second which second (record { event = event; root = root; block = block; state = state; entered = seen }) → second_now ≡ with_second which second (record { event = event; root = root; block = block; state = state; entered = entered })
second_seen which event root block state seen entered second second_now same is = is ∙ ap (λ (states : List PlainState). with_second which second (record { event = event; root = root; block = block; state = state; entered = states })) same
