-- Operations are listed one after the other, each once.
use Rattle.std.proofs.Common.{◌≡◌, ◌∙◌, ℕ, ◌+◌, ◌<◌, ◌≤◌, Bool, true, false, if◌then◌else◌, List, [], ◌∷◌, ◌++◌, length, get_or, drop, Option, Some, None, Result, Ok, Err, OnOk, IfOk, sym, ap, subst, append_assoc}
use Rattle.std.specs.List.{All, Contains, filter_map, cons_option}
use Rattle.std.proofs.lemmas.List.{append-nil, drop_more}
use Rattle.std.proofs.Math.ListN.{drop_of_length-le}
use Rattle.beacon_types.specs.declared.attester_slashing.AttesterSlashing.{AttesterSlashing}
use Rattle.spec_state.specs.declared.plain.PlainState.{PlainState}
use Rattle.spec_forensics.specs.declared.offence.Offence.{Offence}
use Rattle.spec_forensics.specs.Histories.{AcceptedBlock}
use Rattle.spec_forensics.specs.CarriedVotes.{all_votes}
use Rattle.spec_forensics.specs.Offences.{offences_below}
use Rattle.spec_forensics.specs.Verdict.{offences_of}
use Rattle.spec_slasher.specs.Operations.{is_listed, each_once, operation_of, operations, offenders, IsNamed}
use Rattle.spec_slasher.proofs.Operations.{common_offends, offender_named}

abbrev Ops : Type 0
Ops = List AttesterSlashing

-- one that is listed is left out
pub listed_already : (kept : Ops) (o : AttesterSlashing) → is_listed kept o ≡ true → (later : Ops) → kept ++ each_once kept later ≡ kept ++ each_once kept (o ∷ later)
unfolding each_once
listed_already kept o is later = ap (λ (t : Bool). kept ++ (if t then each_once kept later else o ∷ each_once (kept ++ o ∷ []) later)) (sym is)

-- and another stands behind them
pub one_behind : (kept now : Ops) (o : AttesterSlashing) → is_listed kept o ≡ false → now ≡ kept ++ o ∷ [] → (later : Ops) → now ++ each_once now later ≡ kept ++ each_once kept (o ∷ later)
unfolding each_once
one_behind kept now o not more later =
    ap (λ (ops : Ops). ops ++ each_once ops later) more
    ∙ append_assoc kept (o ∷ []) (each_once (kept ++ o ∷ []) later)
    ∙ ap (λ (t : Bool). kept ++ (if t then each_once kept later else o ∷ each_once (kept ++ o ∷ []) later)) (sym not)

module _ (f : Offence → Option AttesterSlashing) where
  -- the operation of one offence
  pub put_for : {U E : Type 0} (r : Result U E) (old now : Ops) (offence : Offence) (o : AttesterSlashing) → Some o ≡ f offence → OnOk r ((later : Ops) → now ++ each_once now later ≡ old ++ each_once old (o ∷ later))
      → OnOk r ((later : List Offence) → now ++ each_once now (filter_map f later) ≡ old ++ each_once old (filter_map f (offence ∷ later)))
  put_for (Ok x) old now offence o is puts = λ later. puts (filter_map f later) ∙ ap (λ (k : Option AttesterSlashing). old ++ each_once old (cons_option k (filter_map f later))) is
  put_for (Err e) old now offence o is puts = tt

  pub none_for : (old : Ops) (offence : Offence) → None ≡ f offence → (later : List Offence) → old ++ each_once old (filter_map f later) ≡ old ++ each_once old (filter_map f (offence ∷ later))
  none_for old offence is later = ap (λ (k : Option AttesterSlashing). old ++ each_once old (cons_option k (filter_map f later))) is

  -- the walk over offences
  pub one_offence : (old now goal : Ops) (offences : List Offence) (i : ℕ) (d : Offence) → i < length offences
      → ((later : List Offence) → now ++ each_once now (filter_map f later) ≡ old ++ each_once old (filter_map f (get_or offences i d ∷ later)))
      → old ++ each_once old (filter_map f (drop i offences)) ≡ goal → now ++ each_once now (filter_map f (drop (i + 1) offences)) ≡ goal
  one_offence old now goal offences i d less puts so_far =
      puts (drop (i + 1) offences)
      ∙ ap (λ (os : List Offence). old ++ each_once old (filter_map f os)) (sym (drop_more offences i d less))
      ∙ so_far

  pub none_left : (list goal : Ops) (offences : List Offence) (i : ℕ) → length offences ≤ i → list ++ each_once list (filter_map f (drop i offences)) ≡ goal → list ≡ goal
  unfolding each_once
  none_left list goal offences i most so_far =
      sym (append-nil list) ∙ ap (λ (os : List Offence). list ++ each_once list (filter_map f os)) (sym (drop_of_length-le offences most)) ∙ so_far

-- ---- what is known of the listed ones

module _ {A E : Type 0} (items : A → Ops) where
  pub all_listed : (r : Result A E) (P : AttesterSlashing → Type 0) (ops : Ops) → IfOk r (λ x. items x ≡ ops) → All P ops → IfOk r (λ x. All P (items x))
  all_listed (Ok x) P ops is all = subst (All P) (sym is) all
  all_listed (Err e) P ops is all = tt

  pub only_offenders : (r : Result A E) (genesis : PlainState) (first second : List AcceptedBlock) → IfOk r (λ x. items x ≡ operations genesis first second)
      → IfOk r (λ x. (index : ℕ) → index < length genesis.validators → IsNamed (items x) index → Contains (offenders genesis first second) index)
  only_offenders (Ok x) genesis first second is = λ index low named. common_offends genesis first second index low (subst (λ (ops : Ops). IsNamed ops index) is named)
  only_offenders (Err e) genesis first second is = tt

  pub all_offenders : (r : Result A E) (genesis : PlainState) (first second : List AcceptedBlock) → IfOk r (λ x. items x ≡ operations genesis first second)
      → IfOk r (λ x. (index : ℕ) → Contains (offenders genesis first second) index → index < length genesis.validators × IsNamed (items x) index)
  all_offenders (Ok x) genesis first second is = λ index offends. subst (λ (ops : Ops). index < length genesis.validators × IsNamed ops index) (sym is) (offender_named genesis first second index offends)
  all_offenders (Err e) genesis first second is = tt

  -- the operations of the offences of the genesis registry
  pub of_offences : (r : Result A E) (genesis : PlainState) (first second : List AcceptedBlock) (shown offences : List Offence) → shown ≡ offences → offences ≡ offences_below (all_votes genesis first second) (length genesis.validators)
      → IfOk r (λ x. items x ≡ each_once [] (filter_map (operation_of genesis first second) shown)) → IfOk r (λ x. items x ≡ operations genesis first second)
  unfolding operations offences_of
  of_offences (Ok x) genesis first second shown offences same are is = is ∙ ap (λ (os : List Offence). each_once [] (filter_map (operation_of genesis first second) os)) (same ∙ are)
  of_offences (Err e) genesis first second shown offences same are is = tt
