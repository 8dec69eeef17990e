-- A store takes each operation whose indices the state of its justified root holds.
use Rattle.std.proofs.Common.{◌≡◌, ◌∙◌, ℕ, ◌⊎◌, inl, inr, Bool, true, false, cond, ◌==◌, List, [], ◌∷◌, Some, fold, refl, sym, ap, subst}
use Rattle.std.specs.List.{All, list_any}
use Rattle.std.proofs.lemmas.Bool.{eqb-true, eq-eqb}
use Rattle.bc_words.specs.Indices.{with_index}
use Rattle.bc_words.specs.Outcome.{Outcome, done, bind}
use Rattle.bc_words.specs.declared.refusal.Refusal.TheVariants.{AsData, IndexRange}
use Rattle.beacon_types.specs.Slashable.{is_slashable_attestation_data}
use Rattle.beacon_types.specs.declared.attester_slashing.AttesterSlashing.{AttesterSlashing}
use Rattle.spec_blocks.specs.IsValidIndexedAttestation.{is_valid_indexed_attestation}
use Rattle.spec_blocks.specs.ProcessAttesterSlashing.{in_both}
use Rattle.spec_state.specs.declared.plain.PlainState.{PlainState}
use Rattle.ffg_law.specs.Links.{IsOneOf}
use Rattle.spec_fork_choice.specs.Store.{Store, KeptBlock, block_of, is_equivocating}
use Rattle.spec_fork_choice.specs.StoreTargetCheckpointState.{kept_or}
use Rattle.spec_fork_choice.specs.OnAttesterSlashing.{with_equivocating, on_attester_slashing}
use Rattle.spec_forensics.specs.Histories.{AcceptedBlock}
use Rattle.spec_slasher.specs.Operations.{operations, IsCommon}
use Rattle.spec_slasher.specs.Accepts.{IsHeld, IsTaken}
use Rattle.spec_slasher.proofs.Lists.{one_of, contained, all_are, in_filter, of_filter, to_any, of_any, into_with, of_with}
use Rattle.spec_slasher.proofs.Accepts.{IsRight, operation_right, first_valid, second_valid, check_done}

-- ---- a store with more equivocating validators

-- what the store becomes: its set alone grows, by exactly these indices
record Grown (store : Store) (indices : List ℕ) (now : Store) : Type 0 where
  behind : List ℕ
  is : now ≡ record store { equivocating_indices = behind }
  more : (i : ℕ) → IsOneOf i store.equivocating_indices ⊎ IsOneOf i indices → IsOneOf i behind
  only : (i : ℕ) → IsOneOf i behind → IsOneOf i store.equivocating_indices ⊎ IsOneOf i indices

one_grown : (store : Store) (n : ℕ) (b : Bool) → is_equivocating store n ≡ b → Grown store (n ∷ []) (cond b store (record store { equivocating_indices = with_index store.equivocating_indices n }))
unfolding is_equivocating
one_grown store n true is =
    let it = of_any (λ index. index == n) store.equivocating_indices is in
    let here : IsOneOf n store.equivocating_indices = subst (λ (k : ℕ). IsOneOf k store.equivocating_indices) (eqb-true it.at n it.passes) it.listed in
    record {
      behind = store.equivocating_indices;
      is = refl;
      more = λ i h. elim h [ inl old ↦ old | inr (inl e) ↦ subst (λ (k : ℕ). IsOneOf k store.equivocating_indices) e here | inr (inr none) ↦ absurd none ];
      only = λ i h. inl h;
    }
one_grown store n false is = record {
  behind = with_index store.equivocating_indices n;
  is = refl;
  more = λ i h. into_with n i store.equivocating_indices (elim h [ inl old ↦ inr old | inr (inl e) ↦ inl e | inr (inr none) ↦ absurd none ]);
  only = λ i h. elim (of_with n i store.equivocating_indices h) [ inl e ↦ inr (inl e) | inr old ↦ inl old ];
}

with_one : (store : Store) (n : ℕ) → Grown store (n ∷ []) (with_equivocating store n)
unfolding with_equivocating
with_one store n = one_grown store n (is_equivocating store n) refl

-- one index, and then the others
then_others : (store between now : Store) (n : ℕ) (ns : List ℕ) → Grown store (n ∷ []) between → Grown between ns now → Grown store (n ∷ ns) now
then_others store between now n ns one others =
    let set : between.equivocating_indices ≡ one.behind = ap (λ (s : Store). s.equivocating_indices) one.is in
    record {
      behind = others.behind;
      is = others.is ∙ ap (λ (s : Store). record s { equivocating_indices = others.behind }) one.is;
      more = λ i h. elim h [
        | inl old ↦ others.more i (inl (subst (IsOneOf i) (sym set) (one.more i (inl old))))
        | inr (inl e) ↦ others.more i (inl (subst (IsOneOf i) (sym set) (one.more i (inr (inl e)))))
        | inr (inr h) ↦ others.more i (inr h)
      ];
      only = λ i h. elim (others.only i h) [
        | inl there ↦ elim (one.only i (subst (IsOneOf i) set there)) [ inl old ↦ inl old | inr (inl e) ↦ inr (inl e) | inr (inr none) ↦ absurd none ]
        | inr more ↦ inr (inr more)
      ];
    }

grown : (store : Store) (ns : List ℕ) → Grown store ns (fold with_equivocating store ns)
grown store [] = record { behind = store.equivocating_indices; is = refl; more = λ i h. elim h [ inl old ↦ old | inr none ↦ absurd none ]; only = λ i h. inl h }
grown store (n ∷ ns) = then_others store (with_equivocating store n) (fold with_equivocating (with_equivocating store n) ns) n ns (with_one store n) (grown (with_equivocating store n) ns)

-- ---- the validators in both attestations

common_of : (operation : AttesterSlashing) (i : ℕ) → IsOneOf i (in_both operation.attestation_1.attesting_indices operation.attestation_2.attesting_indices) → IsCommon operation i
unfolding in_both
common_of operation i h =
    let f = of_filter (λ index. list_any (λ other. other == index) operation.attestation_2.attesting_indices) i operation.attestation_1.attesting_indices h in
    let it = of_any (λ other. other == i) operation.attestation_2.attesting_indices f.1 in
    record {
      first = contained operation.attestation_1.attesting_indices i f.0;
      second = contained operation.attestation_2.attesting_indices i (subst (λ (k : ℕ). IsOneOf k operation.attestation_2.attesting_indices) (eqb-true it.at i it.passes) it.listed);
    }

in_common : (operation : AttesterSlashing) (i : ℕ) → IsCommon operation i → IsOneOf i (in_both operation.attestation_1.attesting_indices operation.attestation_2.attesting_indices)
unfolding in_both
in_common operation i common =
    in_filter (λ index. list_any (λ other. other == index) operation.attestation_2.attesting_indices) i operation.attestation_1.attesting_indices
    (to_any (λ other. other == i) i operation.attestation_2.attesting_indices (one_of operation.attestation_2.attesting_indices i common.second) (eq-eqb i i refl))
    (one_of operation.attestation_1.attesting_indices i common.first)

-- ---- the store's step

step_is : (store : Store) (justified : KeptBlock) (o : AttesterSlashing) → block_of store.blocks store.justified_checkpoint.root ≡ Some justified → IsRight o → IsHeld justified.state o
    → on_attester_slashing store o ≡ done (fold with_equivocating store (in_both o.attestation_1.attesting_indices o.attestation_2.attesting_indices))
unfolding on_attester_slashing kept_or
step_is store justified o kept right held =
    let all : Outcome Store = done (fold with_equivocating store (in_both o.attestation_1.attesting_indices o.attestation_2.attesting_indices)) in
    ap (λ (c : Outcome (Unit {0})). bind c (λ _. bind (kept_or IndexRange (block_of store.blocks store.justified_checkpoint.root)) (λ j. bind (is_valid_indexed_attestation j.state o.attestation_1) (λ _. bind (is_valid_indexed_attestation j.state o.attestation_2) (λ _. all)))))
    (check_done (is_slashable_attestation_data o.attestation_1.content o.attestation_2.content) AsData right.slashable)
    ∙ ap (λ (k : _). bind (kept_or IndexRange k) (λ j. bind (is_valid_indexed_attestation j.state o.attestation_1) (λ _. bind (is_valid_indexed_attestation j.state o.attestation_2) (λ _. all)))) kept
    ∙ ap (λ (c : Outcome (Unit {0})). bind c (λ _. bind (is_valid_indexed_attestation justified.state o.attestation_2) (λ _. all))) (first_valid justified.state o right held)
    ∙ ap (λ (c : Outcome (Unit {0})). bind c (λ _. all)) (second_valid justified.state o right held)

right_taken : (o : AttesterSlashing) → IsRight o → IsTaken o
right_taken o right store justified kept held =
    let g = grown store (in_both o.attestation_1.attesting_indices o.attestation_2.attesting_indices) in
    record {
      behind = g.behind;
      is = step_is store justified o kept right held ∙ ap done g.is;
      more = λ i h. contained g.behind i (g.more i (elim h [ inl old ↦ inl (one_of store.equivocating_indices i old) | inr common ↦ inr (in_common o i common) ]));
      only = λ i h. elim (g.only i (one_of g.behind i h)) [ inl old ↦ inl (contained store.equivocating_indices i old) | inr both ↦ inr (common_of o i both) ];
    }

pub all_taken : (genesis : PlainState) (first second : List AcceptedBlock) → All IsTaken (operations genesis first second)
all_taken genesis first second = all_are IsTaken (operations genesis first second) (λ operation h. right_taken operation (operation_right genesis first second operation h))
