-- The slots of a chain: states stay backed, their latest block roots tell the chain, and their justification is what the ends of
-- its epochs made.
use Rattle.std.proofs.Common.{◌≡◌, ◌∙◌, ℕ, ◌+◌, ◌-◌, ◌*◌, ◌%◌, ◌<◌, ◌≤◌, inl, inr, List, [], ◌∷◌, ◌++◌, length, length-append, refl, sym, ap, subst, arith}
use Rattle.std.specs.Prelude.{slice_index_or}
use Rattle.std.specs.List.{AllByRecursion}
use Rattle.std.proofs.lemmas.Bool.{cases_lt}
use Rattle.std.proofs.lemmas.List.{length-set}
use Rattle.bc_words.specs.Outcome.{done}
use Rattle.bc_preset.specs.declared.presets.Preset.{Preset}
use Rattle.bc_preset.specs.laws.Bounds.{HasPresetBounds}
use Rattle.spec_state.specs.declared.plain.PlainState.{PlainState}
use Rattle.spec_state.specs.Genesis.{header_root_of}
use Rattle.spec_state.specs.Accessors.{get_current_epoch, get_previous_epoch, get_block_root, get_block_root_at_slot}
use Rattle.spec_transition.proofs.RecentRoots.{IsRecent, recent, set_root}
use Rattle.spec_epochs.specs.declared.justification.Justification.{Justification}
use Rattle.spec_epochs.specs.WeighJustificationAndFinalization.{justification_of, with_justification}
use Rattle.spec_epochs.specs.ProcessJustificationAndFinalization.{process_justification_and_finalization}
use Rattle.spec_epochs.proofs.SoundJustification.{either_of}
use Rattle.spec_transition.specs.ProcessSlot.{process_slot}
use Rattle.spec_transition.proofs.Links.{Links, links_of}
use Rattle.ffg_law.specs.declared.link.Link.{Link}
use Rattle.ffg_law.specs.Histories.{EpochEnd, IsHistoryFrom, IsWeighed, last_from, nothing_justified, first_weighed}
use Rattle.vote_law.specs.Backed.{Votes, IsBacked}
use Rattle.spec_forensics.specs.Steady.{IsSteadyAt}
use Rattle.vote_law.specs.Ends.{end_of}
use Rattle.vote_law.specs.Runs.{Places, Keeps, HasVoted, IsGoodEnd, IsRun, IsTold}
use Rattle.vote_law.proofs.Backed.{More, no_more}
use Rattle.vote_law.proofs.Lists.{with_last, all_more}
use Rattle.vote_law.proofs.BackedEpoch.{first_two}
use Rattle.vote_law.proofs.Voters.{current_voted, previous_voted}
use Rattle.vote_law.proofs.Steady.{steady_weighed}

-- ---- lists of ends

history_grows : (increment : ℕ) (weights : List ℕ) (j : Justification) (epoch : ℕ) (xs : List EpochEnd) (x : EpochEnd) → IsHistoryFrom increment weights j epoch xs → x.before ≡ last_from j xs → x.epoch ≡ epoch + length xs → IsWeighed increment weights x
    → IsHistoryFrom increment weights j epoch (xs ++ x ∷ [])
history_grows increment weights j epoch [] x history before at weighed = (before, (let e : x.epoch ≡ epoch = omega arith in e), weighed, tt)
history_grows increment weights j epoch (y ∷ ys) x history before at weighed =
    (history.0, history.1, history.2, history_grows increment weights y.after (epoch + 1) ys x history.3 before (omega arith) weighed)

last_grows : (j : Justification) (xs : List EpochEnd) (x : EpochEnd) → last_from j (xs ++ x ∷ []) ≡ x.after
last_grows j [] x = refl
last_grows j (y ∷ ys) x = last_grows y.after ys x

-- ---- more votes, and places that are told further

pub voted_more : (genesis : PlainState) (votes others : Votes) (link : Link) (i : ℕ) → More votes others → HasVoted genesis votes link i → HasVoted genesis others link i
voted_more genesis votes others link i more one = record { voted = one.voted; attesters = one.attesters; carried = more one.voted one.attesters one.carried; attests = one.attests; votes_for = one.votes_for; active = one.active }

pub before_epoch : (epoch n limit : ℕ) → 1 < epoch → epoch * n < limit → (epoch - 1) * n < limit
before_epoch epoch n limit late low =
    let e : epoch ≡ (epoch - 1) + 1 = omega arith in
    let both : epoch * n ≡ ((epoch - 1) + 1) * n = ap (λ (k : ℕ). k * n) e in
    omega arith

good_more : (genesis : PlainState) (votes others : Votes) (stands places : Places) (limit more : ℕ) (x : EpochEnd) → More votes others → Keeps stands places limit → limit ≤ more
    → IsGoodEnd genesis votes stands limit x → IsGoodEnd genesis others places more x
good_more genesis votes others stands places limit more x all keeps grows good =
    let late = good.late in
    let low = good.low in
    record {
      late = late;
      low = omega arith;
      previous_root = keeps _ x.previous_root (before_epoch x.epoch genesis.preset.slots_per_epoch limit late low) good.previous_root;
      current_root = keeps _ x.current_root low good.current_root;
      previous_voters = λ i one. voted_more genesis votes others _ i all (good.previous_voters i one);
      current_voters = λ i one. voted_more genesis votes others _ i all (good.current_voters i one);
    }

-- a state of the same epoch and justification, at a later slot
pub run_moves : (genesis : PlainState) (votes others : Votes) (stands places : Places) (s t : PlainState) → More votes others → Keeps stands places s.slot → s.slot ≤ t.slot
    → get_current_epoch t ≡ get_current_epoch s → justification_of t ≡ justification_of s → IsRun genesis votes stands s → IsRun genesis others places t
run_moves genesis votes others stands places s t all keeps grows epoch same run = record {
  ends = run.ends;
  history = run.history;
  last = run.last ∙ sym same;
  count = run.count ∙ ap (λ (n : ℕ). n - 2) (sym epoch);
  good = all_more _ _ run.ends (λ x good. good_more genesis votes others stands places s.slot t.slot x all keeps grows good) run.good;
}

-- ---- latest block roots

pub told_same : (stands : Places) (end : ℕ) (s t : PlainState) → t.block_roots ≡ s.block_roots → t.preset ≡ s.preset → IsTold stands end s → IsTold stands end t
unfolding get_block_root_at_slot
told_same stands end s t roots preset told = record {
  roots = ap length roots ∙ (told.roots ∙ ap (λ (p : Preset). p.slots_per_historical_root) (sym preset));
  told = λ slot less near. subst (λ (p : Preset). stands slot (slice_index_or t.block_roots (slot % p.slots_per_historical_root) [])) (sym preset)
      (subst (λ (k : List (List ℕ)). stands slot (slice_index_or k (slot % s.preset.slots_per_historical_root) [])) (sym roots)
      (told.told slot less (subst (λ (p : Preset). end ≤ slot + p.slots_per_historical_root) preset near)));
}

pub slot_told : (stands : Places) (s : PlainState) → HasPresetBounds s.preset → stands s.slot (header_root_of s) → IsTold stands s.slot s → IsTold stands (s.slot + 1) (process_slot s)
unfolding process_slot get_block_root_at_slot
slot_told stands s bounds here told =
    let n : ℕ = s.preset.slots_per_historical_root in
    let many : 64 ≤ n = bounds.least_slots_per_historical_root in
    record {
      roots = length-set s.block_roots (s.slot % n) (header_root_of s) ∙ told.roots;
      told = λ slot less near. set_root n s.block_roots (header_root_of s) s.slot slot (λ (root : List ℕ). stands slot root) told.roots (omega arith) less (omega arith)
          (λ same. subst (λ (k : ℕ). stands k (header_root_of s)) (sym same) here)
          (λ earlier. told.told slot earlier (omega arith));
    }

root_told : (stands : Places) (s : PlainState) (epoch : ℕ) → IsRecent s.preset.slots_per_epoch s.preset.slots_per_historical_root s.slot epoch → IsTold stands (s.slot + 1) s → stands (epoch * s.preset.slots_per_epoch) (get_block_root s epoch)
unfolding get_block_root
root_told stands s epoch recent told = told.told (epoch * s.preset.slots_per_epoch) recent.less recent.near

-- ---- the end of an epoch

with_roots : (s : PlainState) (j : Justification) → (with_justification s j).block_roots ≡ s.block_roots
unfolding with_justification
with_roots s j = refl

pub justification_roots : (s t : PlainState) → process_justification_and_finalization s ≡ done t → t.block_roots ≡ s.block_roots
justification_roots s t is = elim (either_of s t is) [
  | inl same ↦ subst (λ (x : PlainState). x.block_roots ≡ s.block_roots) same refl
  | inr weighed ↦ subst (λ (x : PlainState). x.block_roots ≡ s.block_roots) weighed.gives (with_roots s weighed.checkpoints)
]

pub justified_as : (s t : PlainState) → links_of t ≡ links_of s → justification_of t ≡ justification_of s
unfolding justification_of
justified_as s t same = ap (λ (l : Links). record { bits = l.bits; previous = l.previous; current = l.current; finalized = l.finalized }) same

recent_of : (s : PlainState) → HasPresetBounds s.preset → 1 < get_current_epoch s
    → IsRecent s.preset.slots_per_epoch s.preset.slots_per_historical_root s.slot (get_current_epoch s) × IsRecent s.preset.slots_per_epoch s.preset.slots_per_historical_root s.slot (get_current_epoch s - 1)
unfolding get_current_epoch
recent_of s bounds late =
    let least : 8 ≤ s.preset.slots_per_epoch = bounds.least_slots_per_epoch in
    let most : s.preset.slots_per_epoch ≤ 32 = bounds.slots_per_epoch in
    let room : 64 ≤ s.preset.slots_per_historical_root = bounds.least_slots_per_historical_root in
    recent s.preset.slots_per_epoch s.preset.slots_per_historical_root s.slot (omega arith) (omega arith) late

good_end : (genesis : PlainState) (votes : Votes) (stands : Places) (s : PlainState) (after : Justification) → s.preset ≡ genesis.preset → HasPresetBounds s.preset → 1 < get_current_epoch s → IsSteadyAt genesis s → IsBacked votes s → IsTold stands (s.slot + 1) s
    → IsGoodEnd genesis votes stands (s.slot + 1) (end_of s after)
unfolding get_previous_epoch justification_of
good_end genesis votes stands s after preset bounds late steady backed told =
    let n : ℕ = s.preset.slots_per_epoch in
    let e : ℕ = get_current_epoch s in
    let both : IsRecent n s.preset.slots_per_historical_root s.slot e × IsRecent n s.preset.slots_per_historical_root s.slot (e - 1) = recent_of s bounds late in
    let previous : stands ((e - 1) * n) (get_block_root s (e - 1)) = root_told stands s (e - 1) both.1 told in
    let current : stands (e * n) (get_block_root s e) = root_told stands s e both.0 told in
    let low : e * n < s.slot + 1 = both.0.less in
    record {
      late = late;
      low = subst (λ (p : Preset). e * p.slots_per_epoch < s.slot + 1) preset low;
      previous_root = subst (λ (p : Preset). stands ((e - 1) * p.slots_per_epoch) (get_block_root s (e - 1))) preset previous;
      current_root = subst (λ (p : Preset). stands (e * p.slots_per_epoch) (get_block_root s e)) preset current;
      previous_voters = λ i attests. previous_voted votes genesis s i bounds late steady.previous backed attests;
      current_voters = λ i attests. current_voted votes genesis s i bounds steady.current backed attests;
    }

-- the run goes on over the end of an epoch: s is the state on which its processing is entered, and u the one of the next slot
pub run_ends : (genesis : PlainState) (votes : Votes) (stands : Places) (s j u : PlainState) → process_justification_and_finalization s ≡ done j → justification_of u ≡ justification_of j → get_current_epoch u ≡ get_current_epoch s + 1 → u.slot ≡ s.slot + 1
    → s.preset ≡ genesis.preset → HasPresetBounds s.preset → IsSteadyAt genesis s → IsBacked votes s → IsTold stands (s.slot + 1) s → IsRun genesis votes stands s → IsRun genesis votes stands u
run_ends genesis votes stands s j u is same next slot preset bounds steady backed told run = elim (cases_lt 1 (get_current_epoch s)) [
  | inl late ↦
      let x : EpochEnd = end_of s (justification_of j) in
      let count = run.count in
      record {
        ends = run.ends ++ x ∷ [];
        history = history_grows _ _ nothing_justified first_weighed run.ends x run.history (sym run.last) (omega arith) (steady_weighed votes genesis s j is late bounds preset steady backed);
        last = last_grows nothing_justified run.ends x ∙ sym same;
        count = let grown = length-append run.ends (x ∷ []) in omega arith;
        good = subst (λ (n : ℕ). AllByRecursion (IsGoodEnd genesis votes stands n) (run.ends ++ x ∷ [])) (sym slot)
            (with_last (IsGoodEnd genesis votes stands (s.slot + 1)) run.ends x
            (all_more _ _ run.ends (λ y good. good_more genesis votes votes stands stands s.slot (s.slot + 1) y (no_more votes) (λ k root less one. one) (omega arith) good) run.good)
            (good_end genesis votes stands s (justification_of j) preset bounds late steady backed told));
      }
  | inr early ↦
      let none : s ≡ j = first_two s j is early in
      record {
        ends = run.ends;
        history = run.history;
        last = run.last ∙ (ap justification_of none ∙ sym same);
        count = let count = run.count in omega arith;
        good = subst (λ (n : ℕ). AllByRecursion (IsGoodEnd genesis votes stands n) run.ends) (sym slot)
            (all_more _ _ run.ends (λ y good. good_more genesis votes votes stands stands s.slot (s.slot + 1) y (no_more votes) (λ k root less one. one) (omega arith) good) run.good);
      }
]
