-- Both votes of an offence are among the votes, of its validator, and slashable.
use Rattle.std.proofs.Common.{◌≡◌, ℕ, zero, suc, inl, inr, Bool, true, false, cond, ◌==◌, List, [], ◌∷◌, Option, Some, None, refl, sym, subst, arith}
use Rattle.std.specs.List.{All, Contains, filter}
use Rattle.std.specs.Option.{option_map}
use Rattle.std.proofs.lemmas.Bool.{eqb-true, or_cases, or_left, or_right}
use Rattle.std.proofs.lemmas.List.Elements.{All-append, All-cons, All-nil, All-tail, All-contains_itself}
use Rattle.beacon_types.specs.declared.attestation_data.AttestationData.{AttestationData}
use Rattle.beacon_types.specs.Slashable.{is_slashable_attestation_data}
use Rattle.spec_forensics.specs.declared.vote.Vote.{Vote}
use Rattle.spec_forensics.specs.FirstPair.{first_pair}
use Rattle.spec_forensics.specs.Offences.{are_slashable, slashable_pair, kind_of, surrounds, offence_by, offence_of, listed, offences_below, IsCarried}
use Rattle.spec_forensics.proofs.Pairs.{IsPair, is_pair}

-- a vote of a validator among some votes
record IsOf (votes : List Vote) (validator : ℕ) (vote : Vote) : Type 0 where
  among : Contains votes vote
  by : vote.validator ≡ validator

of_one : (votes : List Vote) (validator : ℕ) (x : Vote) (rest : List Vote) → Contains votes x → All (IsOf votes validator) rest → (b : Bool) → (x.validator == validator) ≡ b → All (IsOf votes validator) (cond b (x ∷ rest) rest)
of_one votes validator x rest among all true is = All-cons (IsOf votes validator) x rest (record { among = among; by = eqb-true x.validator validator is }) all
of_one votes validator x rest among all false is = all

of_validator : (votes : List Vote) (validator : ℕ) (xs : List Vote) → All (Contains votes) xs → All (IsOf votes validator) (filter (λ vote. vote.validator == validator) xs)
of_validator votes validator [] all = All-nil (IsOf votes validator)
of_validator votes validator (x ∷ xs) all = of_one votes validator x _ (all 0 x (omega arith)) (of_validator votes validator xs (All-tail (Contains votes) x xs all)) (x.validator == validator) refl

other_order : (a b : AttestationData) → are_slashable a b ≡ true → are_slashable b a ≡ true
unfolding are_slashable
other_order a b h = elim (or_cases (is_slashable_attestation_data a b) (is_slashable_attestation_data b a) h) [
  | inl first ↦ or_right (is_slashable_attestation_data b a) (is_slashable_attestation_data a b) first
  | inr second ↦ or_left (is_slashable_attestation_data b a) (is_slashable_attestation_data a b) second
]

by_carried : (votes : List Vote) (validator : ℕ) (a b : Vote) → IsOf votes validator a → IsOf votes validator b → are_slashable a.content b.content ≡ true → (s : Bool) → surrounds b a ≡ s → IsCarried votes (offence_by validator a b)
unfolding offence_by
by_carried votes validator a b one other is true s = subst (λ (swap : Bool). IsCarried votes (cond swap (record { validator = validator; kind = kind_of a b; first = b; second = a }) (record { validator = validator; kind = kind_of a b; first = a; second = b }))) (sym s)
    (record { first = other.among; second = one.among; first_by = other.by; second_by = one.by; slashable = other_order a.content b.content is })
by_carried votes validator a b one other is false s = subst (λ (swap : Bool). IsCarried votes (cond swap (record { validator = validator; kind = kind_of a b; first = b; second = a }) (record { validator = validator; kind = kind_of a b; first = a; second = b }))) (sym s)
    (record { first = one.among; second = other.among; first_by = one.by; second_by = other.by; slashable = is })

one_carried : (votes : List Vote) (validator : ℕ) (o : Option (Vote × Vote)) → slashable_pair votes validator ≡ o → All (IsCarried votes) (listed (option_map (λ pair. offence_by validator pair.0 pair.1) o))
unfolding listed slashable_pair
one_carried votes validator None is = All-nil (IsCarried votes)
one_carried votes validator (Some pair) is =
    let own : List Vote = filter (λ vote. vote.validator == validator) votes in
    let all : All (IsOf votes validator) own = of_validator votes validator votes (All-contains_itself votes) in
    let p : IsPair (IsOf votes validator) (λ a b. are_slashable a.content b.content) (first_pair (λ a b. are_slashable a.content b.content) [] own) = is_pair (IsOf votes validator) (λ a b. are_slashable a.content b.content) [] own (All-nil (IsOf votes validator)) all in
    All-cons (IsCarried votes) (offence_by validator pair.0 pair.1) [] (by_carried votes validator pair.0 pair.1 (p.earlier pair is) (p.later pair is) (p.passes pair is) (surrounds pair.1 pair.0) refl) (All-nil (IsCarried votes))

pub all_carried : (votes : List Vote) (count : ℕ) → All (IsCarried votes) (offences_below votes count)
unfolding offences_below offence_of
all_carried votes zero = All-nil (IsCarried votes)
all_carried votes (suc validator) = All-append (IsCarried votes) (offences_below votes validator) _ (all_carried votes validator) (one_carried votes validator (slashable_pair votes validator) refl)
