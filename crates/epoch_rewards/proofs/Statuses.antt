-- The statuses that one pass notes are how each validator attests.
use Rattle.std.proofs.Common.{◌≡◌, ℕ, ◌<◌, Bool, true, false, cond, ◌||◌, List, [], ◌∷◌, Option, length, map, filter, replicate, get_or, set, eqb, refl, sym, ap, ◌∙◌, arith, inl, inr}
use Rattle.std.specs.List.{list_any, range_with_len}
use Rattle.std.proofs.lemmas.Bool.{cases_eq, eq-eqb, ne_eqb}
use Rattle.std.proofs.lemmas.List.{ext_get_or, get_or-replicate, length-replicate, length-set, get_or-set_same, get_or-set_other}
use Rattle.std.proofs.lemmas.List.FromFn.{length-map-range_with_len, get_or-map-range_with_len}
use Rattle.beacon_types.specs.declared.pending_attestation.PendingAttestation.{PendingAttestation}
use Rattle.spec_state.specs.declared.plain.PlainState.{PlainState}
use Rattle.spec_state.specs.Accessors.{get_attesting_indices, get_block_root}
use Rattle.spec_epochs.specs.Each.{validator_indices, is_among}
use Rattle.spec_epochs.specs.Helpers.{attests, get_matching_source_attestations}
use Rattle.spec_epochs.specs.GetInclusionDelayDeltas.{inclusion}
use Rattle.epoch_rewards.specs.declared.inclusions.Inclusion.{Inclusion}
use Rattle.epoch_rewards.specs.declared.matching.Vote.{Vote}
use Rattle.epoch_rewards.specs.declared.matching.Vote.TheVariants.{Source, Target, Head}
use Rattle.epoch_rewards.specs.declared.table.Status.{Status}
use Rattle.epoch_rewards.specs.declared.table.Shown.{Shown}
use Rattle.epoch_rewards.specs.inside.Votes.{counts_for, matching}
use Rattle.epoch_rewards.specs.inside.Statuses.{status_of, statuses_of, has_vote, absent, shown_by, noted}
use Rattle.epoch_rewards.specs.inside.Notes.{noted_each, all_noted}
use Rattle.epoch_rewards.proofs.Entries.{idempotent, all_better, best_is_first}
use Rattle.epoch_rewards.proofs.Noted.{notes_end}
use Rattle.epoch_rewards.proofs.Rights.{right_are}

-- ---- what stands at a place

or_assoc : (a b c : Bool) → ((a || b) || c) ≡ (a || (b || c))
or_assoc true b c = refl
or_assoc false b c = refl

or_false : (a : Bool) → a ≡ (a || false)
or_false true = refl
or_false false = refl

or_true : (a : Bool) → true ≡ (a || true)
or_true true = refl
or_true false = refl

or_twice : (a b : Bool) → ((a || b) || b) ≡ (a || b)
or_twice true b = refl
or_twice false true = refl
or_twice false false = refl

-- a status of these columns
abbrev with_columns : Bool → Bool → Bool → Option Inclusion → Status
with_columns source target head entry = record { source = source; target = target; head = head; inclusion = entry }

same_columns : (a b : Bool) (c d : Bool) (e f : Bool) (x y : Option Inclusion) → a ≡ b → c ≡ d → e ≡ f → x ≡ y → with_columns a c e x ≡ with_columns b d f y
same_columns a b c d e f x y ab cd ef xy =
    ap (λ s. with_columns s c e x) ab
    ∙ ap (λ t. with_columns b t e x) cd
    ∙ ap (λ h. with_columns b d h x) ef
    ∙ ap (λ i. with_columns b d f i) xy

noted_twice : (status : Status) (shown : Shown) → noted (noted status shown) shown ≡ noted status shown
unfolding noted
noted_twice status shown = same_columns true true _ _ _ _ _ _ refl (or_twice status.target shown.target) (or_twice status.head shown.head) (idempotent status.inclusion shown.inclusion)

pub length-noted_each : (statuses : List Status) (indices : List ℕ) (shown : Shown) → length (noted_each absent noted statuses indices shown) ≡ length statuses
unfolding noted_each
length-noted_each statuses [] shown = refl
length-noted_each statuses (index ∷ indices) shown = length-noted_each (set statuses index (noted (get_or statuses index absent) shown)) indices shown ∙ length-set statuses index (noted (get_or statuses index absent) shown)

pub length-all_noted : (state : PlainState) (root : List ℕ) (statuses : List Status) (attestations : List PendingAttestation) → length (all_noted absent noted state root statuses attestations) ≡ length statuses
unfolding all_noted
length-all_noted state root statuses [] = refl
length-all_noted state root statuses (a ∷ attestations) = length-all_noted state root (noted_each absent noted statuses (get_attesting_indices state a.content a.aggregation_bits) (shown_by state root a)) attestations ∙ length-noted_each statuses _ _

abbrev taken : Bool → Status → Shown → Status
taken b status shown = cond b (noted status shown) status

same_taken : (b : Bool) (status : Status) (shown : Shown) → taken b (noted status shown) shown ≡ noted status shown
same_taken true status shown = noted_twice status shown
same_taken false status shown = refl

get_or-noted_each : (statuses : List Status) (indices : List ℕ) (shown : Shown) (k : ℕ) → k < length statuses → get_or (noted_each absent noted statuses indices shown) k absent ≡ taken (is_among k indices) (get_or statuses k absent) shown
unfolding noted_each is_among
get_or-noted_each statuses [] shown k less = refl
get_or-noted_each statuses (index ∷ indices) shown k less =
    let after = set statuses index (noted (get_or statuses index absent) shown) in
    get_or-noted_each after indices shown k (omega (arith, length-set statuses index (noted (get_or statuses index absent) shown)))
    ∙ elim (cases_eq index k) as (λ _. taken (list_any (λ other. eqb other k) indices) (get_or after k absent) shown ≡ taken (eqb index k || list_any (λ other. eqb other k) indices) (get_or statuses k absent) shown) [
      | inl e ↦
          ap (λ i. taken (list_any (λ other. eqb other k) indices) (get_or (set statuses i (noted (get_or statuses i absent) shown)) k absent) shown) e
          ∙ ap (λ status. taken (list_any (λ other. eqb other k) indices) status shown) (get_or-set_same statuses k (noted (get_or statuses k absent) shown) absent less)
          ∙ same_taken (list_any (λ other. eqb other k) indices) (get_or statuses k absent) shown
          ∙ sym (ap (λ b. taken (b || list_any (λ other. eqb other k) indices) (get_or statuses k absent) shown) (eq-eqb index k e))
      | inr ne ↦
          ap (λ status. taken (list_any (λ other. eqb other k) indices) status shown) (get_or-set_other statuses index k (noted (get_or statuses index absent) shown) absent (λ e. ne (sym e)))
          ∙ sym (ap (λ b. taken (b || list_any (λ other. eqb other k) indices) (get_or statuses k absent) shown) (ne_eqb index k ne))
    ]

-- a status with what some attestations show, in order
module _ (state : PlainState) (root : List ℕ) where
  all_shown : Status → List PendingAttestation → Status
  all_shown status [] = status
  all_shown status (a ∷ attestations) = all_shown (noted status (shown_by state root a)) attestations

  either_way : (b : Bool) (status : Status) (a : PendingAttestation) (rest : List PendingAttestation) → all_shown (taken b status (shown_by state root a)) rest ≡ all_shown status (cond b (a ∷ rest) rest)
  unfolding all_shown
  either_way true status a rest = refl
  either_way false status a rest = refl

  get_or-all_noted : (statuses : List Status) (attestations : List PendingAttestation) (k : ℕ) → k < length statuses → get_or (all_noted absent noted state root statuses attestations) k absent ≡ all_shown (get_or statuses k absent) (filter (attests state k) attestations)
  unfolding all_noted attests all_shown
  get_or-all_noted statuses [] k less = refl
  get_or-all_noted statuses (a ∷ attestations) k less =
      let indices = get_attesting_indices state a.content a.aggregation_bits in
      get_or-all_noted (noted_each absent noted statuses indices (shown_by state root a)) attestations k (omega (arith, length-noted_each statuses indices (shown_by state root a)))
      ∙ ap (λ status. all_shown status (filter (attests state k) attestations)) (get_or-noted_each statuses indices (shown_by state root a) k less)
      ∙ either_way (is_among k indices) (get_or statuses k absent) a (filter (attests state k) attestations)

  -- ---- its columns

  has_noted : (vote : Vote) (status : Status) (a : PendingAttestation) → has_vote vote (noted status (shown_by state root a)) ≡ (has_vote vote status || counts_for state vote root a)
  unfolding has_vote noted shown_by counts_for
  has_noted Source status a = or_true status.source
  has_noted Target status a = refl
  has_noted Head status a = refl

  -- whether one more attestation has the vote right, by whether the validator attests in it and whether it has the vote right
  one_more : (here attests_here right rest : Bool) (a : PendingAttestation) (p : PendingAttestation → Bool) (others : List PendingAttestation) → p a ≡ attests_here → list_any p others ≡ rest
      → cond attests_here ((here || right) || rest) (here || rest) ≡ (here || list_any p (cond right (a ∷ others) others))
  one_more here true true rest a p others pa any = ap (λ b. b || rest) (sym (or_true here)) ∙ or_true here ∙ ap (λ b. here || (b || list_any p others)) (sym pa)
  one_more here true false rest a p others pa any = ap (λ b. b || rest) (sym (or_false here)) ∙ ap (λ b. here || b) (sym any)
  one_more here false true rest a p others pa any = ap (λ b. here || b) (sym any) ∙ ap (λ b. here || (b || list_any p others)) (sym pa)
  one_more here false false rest a p others pa any = ap (λ b. here || b) (sym any)

  shown_either : (b : Bool) (vote : Vote) (status : Status) (a : PendingAttestation) (rest : List PendingAttestation) → has_vote vote (all_shown status (cond b (a ∷ rest) rest)) ≡ cond b (has_vote vote (all_shown (noted status (shown_by state root a)) rest)) (has_vote vote (all_shown status rest))
  unfolding all_shown
  shown_either true vote status a rest = refl
  shown_either false vote status a rest = refl

  votes_are : (vote : Vote) (p : PendingAttestation → Bool) (status : Status) (attestations : List PendingAttestation) → has_vote vote (all_shown status (filter p attestations)) ≡ (has_vote vote status || list_any p (filter (counts_for state vote root) attestations))
  unfolding all_shown
  votes_are vote p status [] = or_false (has_vote vote status)
  votes_are vote p status (a ∷ attestations) =
      let others = filter (counts_for state vote root) attestations in
      let more = noted status (shown_by state root a) in
      shown_either (p a) vote status a (filter p attestations)
      ∙ ap (λ b. cond (p a) b (has_vote vote (all_shown status (filter p attestations)))) (votes_are vote p more attestations ∙ ap (λ b. b || list_any p others) (has_noted vote status a))
      ∙ ap (λ b. cond (p a) ((has_vote vote status || counts_for state vote root a) || list_any p others) b) (votes_are vote p status attestations)
      ∙ one_more (has_vote vote status) (p a) (counts_for state vote root a) (list_any p others) a p others refl refl

  inclusions_are : (status : Status) (attestations : List PendingAttestation) → (all_shown status attestations).inclusion ≡ all_better status.inclusion attestations
  unfolding all_shown all_better noted shown_by
  inclusions_are status [] = refl
  inclusions_are status (a ∷ attestations) = inclusions_are (noted status (shown_by state root a)) attestations

-- ---- how a validator attests

module _ (state : PlainState) (epoch : ℕ) (root : List ℕ) (is : root ≡ get_block_root state epoch) (k : ℕ) where
  abbrev made : Status
  made = all_shown state root absent (filter (attests state k) (get_matching_source_attestations state epoch))

  vote_made : (vote : Vote) → has_vote vote absent ≡ false → has_vote vote made ≡ list_any (attests state k) (matching state vote epoch)
  vote_made vote none =
      votes_are state root vote (attests state k) absent (get_matching_source_attestations state epoch)
      ∙ ap (λ b. b || list_any (attests state k) (filter (counts_for state vote root) (get_matching_source_attestations state epoch))) none
      ∙ ap (list_any (attests state k)) (right_are state vote epoch root is)

  made_is : made ≡ status_of state epoch k
  unfolding has_vote absent matching status_of inclusion
  made_is = same_columns _ _ _ _ _ _ _ _ (vote_made Source refl) (vote_made Target refl) (vote_made Head refl)
      (inclusions_are state root absent (filter (attests state k) (get_matching_source_attestations state epoch)) ∙ best_is_first (filter (attests state k) (get_matching_source_attestations state epoch)))

pub statuses_are : (state : PlainState) (epoch : ℕ) (root : List ℕ) → root ≡ get_block_root state epoch → all_noted absent noted state root (replicate (length state.validators) absent) (get_matching_source_attestations state epoch) ≡ statuses_of state epoch
unfolding statuses_of validator_indices
statuses_are state epoch root is =
    let count = length state.validators in
    let attestations = get_matching_source_attestations state epoch in
    let none : List Status = replicate count absent in
    let len : length none ≡ count = length-replicate count absent in
    ext_get_or absent (all_noted absent noted state root none attestations) (map (status_of state epoch) (range_with_len 0 count))
    (length-all_noted state root none attestations ∙ len ∙ sym (length-map-range_with_len (status_of state epoch) 0 count))
    (λ k less. let below : k < count = omega (arith, less, length-all_noted state root none attestations, len) in
    get_or-all_noted state root none attestations k (omega (arith, len))
    ∙ ap (λ status. all_shown state root status (filter (attests state k) attestations)) (get_or-replicate count k absent absent below)
    ∙ made_is state epoch root is k
    ∙ sym (get_or-map-range_with_len (status_of state epoch) 0 count k k absent below (omega arith)))

-- where an epoch has no attestation nobody attests
pub nobody_attested : (state : PlainState) (epoch : ℕ) → length (get_matching_source_attestations state epoch) ≡ 0 → replicate (length state.validators) absent ≡ statuses_of state epoch
nobody_attested state epoch none =
    let root = get_block_root state epoch in
    let attestations = get_matching_source_attestations state epoch in
    let all : List Status = replicate (length state.validators) absent in
    sym (notes_end absent noted all state root attestations 0 (omega (arith, none))) ∙ statuses_are state epoch root refl
