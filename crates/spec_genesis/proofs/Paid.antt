-- The balance of a key is what its deposits paid, so that the making stops exactly at the first deposit that doesn't fit.
use Rattle.std.proofs.Common.{◌≡◌, ◌∙◌, ◌⊎◌, inl, inr, ℕ, ◌+◌, ◌^◌, ◌<◌, ◌≤◌, Bool, true, false, cond, ltb, List, [], ◌∷◌, ◌++◌, length, get_or, Option, Some, None, slice_get, slice_set, refl, sym, ap, subst, arith}
use Rattle.std.specs.List.{AllByRecursion}
use Rattle.std.specs.Option.{option_or}
use Rattle.std.specs.Cmp.{unsigned_Decides}
use Rattle.std.specs.Cmp.Lexicographic.{pointwise_decides}
use Rattle.std.proofs.lemmas.Bool.{lt-ltb, le-ltb, ltb-true, ltb-false}
use Rattle.std.proofs.lemmas.List.{length_push, get_or_push, get_or_append_left, get_or-set_same, get_or-set_other}
use Rattle.std.proofs.lemmas.List.Quantifiers.{position-Some}
use Rattle.std.proofs.lemmas.Option.{slice_get-get_or}
use Rattle.bc_words.specs.Outcome.{Outcome, done, refused}
use Rattle.bc_words.specs.declared.refusal.Refusal.TheVariants.{Overflow}
use Rattle.beacon_types.specs.declared.deposit_data.DepositData.{DepositData}
use Rattle.beacon_types.specs.declared.validator.Validator.{Validator}
use Rattle.beacon_types.specs.Containers.{deposit_data_codec}
use Rattle.spec_state.specs.declared.plain.PlainState.{PlainState}
use Rattle.spec_blocks.specs.GetValidatorFromDeposit.{get_validator_from_deposit}
use Rattle.spec_blocks.specs.ProcessDeposit.{same_pubkey, index_of_pubkey, credit_deposit}
use Rattle.spec_blocks.proofs.Pubkeys.{index-push}
use Rattle.spec_genesis.specs.InitializeBeaconStateFromEth1.{Initialized, made, refused_at, limited_at, deposit_then, process_genesis_deposit, process_genesis_deposits, state_before_deposits}
use Rattle.bc_preset.specs.declared.presets.Preset.{Preset}
use Rattle.bc_preset.specs.Presets.{IsPreset}
use Rattle.spec_genesis.proofs.MadeState.{limit_of, none_behind}
use Rattle.spec_genesis.specs.Overflows.{paid_to, first_overflow}
use Rattle.spec_genesis.proofs.Deposits.{IsBehind, counted, with_branch, step_is, joined, topped, preset_is, behind_joined, behind_topped}

-- ---- keys

key_is : (a b : List ℕ) → same_pubkey a b ≡ true → a ≡ b
key_is a b h = (pointwise_decides unsigned_Decides a b).0 h

is_key : (a b : List ℕ) → a ≡ b → same_pubkey a b ≡ true
is_key a b e = (pointwise_decides unsigned_Decides a b).1 e

index_at : (vs : List Validator) (q : List ℕ) (k : ℕ) (d : Validator) → index_of_pubkey vs q ≡ Some k → (k < length vs) × (q ≡ (get_or vs k d).pubkey)
unfolding index_of_pubkey
index_at vs q k d is = let p = position-Some (λ v. same_pubkey q v.pubkey) vs k d is in (p.0, key_is q (get_or vs k d).pubkey p.1)

-- ---- balances

abbrev balance_at : Option ℕ → List ℕ → ℕ
balance_at None balances = 0
balance_at (Some index) balances = get_or balances index 0

-- the balance of each key is what it was paid
abbrev Pays : List Validator → List ℕ → List DepositData → Type 0
Pays vs bs before = (q : List ℕ) → balance_at (index_of_pubkey vs q) bs ≡ paid_to q before

paid_push : (q : List ℕ) (before : List DepositData) (d : DepositData) → paid_to q (before ++ d ∷ []) ≡ paid_to q before + cond (same_pubkey q d.pubkey) d.amount 0
unfolding paid_to
paid_push q [] d = omega arith
paid_push q (e ∷ before) d = omega (arith, paid_push q before d)

some_is : (a b : ℕ) → Some a ≡ Some b → a ≡ b
some_is a b e = ap (λ o. balance_or o) e
  where
    balance_or : Option ℕ → ℕ
    balance_or None = 0
    balance_or (Some k) = k

joined_by : (o : Option ℕ) (b : Bool) (vs : List Validator) (bs : List ℕ) (paid amount : ℕ) → length bs ≡ length vs → balance_at o bs ≡ paid → ((k : ℕ) → o ≡ Some k → k < length vs) → ((k : ℕ) → o ≡ Some k → b ≡ true → ⊥)
    → balance_at (option_or o (cond b (Some (length vs)) None)) (bs ++ amount ∷ []) ≡ paid + cond b amount 0
joined_by (Some k) true vs bs paid amount paired is inside new = absurd (new k refl refl)
joined_by (Some k) false vs bs paid amount paired is inside new = get_or_append_left bs (amount ∷ []) 0 k (let h = inside k refl in omega arith) ∙ is ∙ omega arith
joined_by None true vs bs paid amount paired is inside new = get_or_push bs amount 0 (length vs) paired ∙ omega arith
joined_by None false vs bs paid amount paired is inside new = is ∙ omega arith

pays_joined : (vs : List Validator) (v : Validator) (bs : List ℕ) (before : List DepositData) (d : DepositData) → length bs ≡ length vs → v.pubkey ≡ d.pubkey → index_of_pubkey vs d.pubkey ≡ None → Pays vs bs before → Pays (vs ++ v ∷ []) (bs ++ d.amount ∷ []) (before ++ d ∷ [])
pays_joined vs v bs before d paired key new pays q =
    ap (λ (o : Option ℕ). balance_at o (bs ++ d.amount ∷ [])) (index-push vs v q)
    ∙ ap (λ (k : List ℕ). balance_at (option_or (index_of_pubkey vs q) (cond (same_pubkey q k) (Some (length vs)) None)) (bs ++ d.amount ∷ [])) key
    ∙ joined_by (index_of_pubkey vs q) (same_pubkey q d.pubkey) vs bs (paid_to q before) d.amount paired (pays q)
    (λ k is. (index_at vs q k v is).0)
    (λ k is same. let e : q ≡ d.pubkey = key_is q d.pubkey same in let n : index_of_pubkey vs q ≡ None = ap (index_of_pubkey vs) e ∙ new in cc)
    ∙ sym (paid_push q before d)

topped_by : (o : Option ℕ) (b : Bool) (bs : List ℕ) (k paid amount : ℕ) → k < length bs → balance_at o bs ≡ paid → (b ≡ true → o ≡ Some k) → (o ≡ Some k → b ≡ true)
    → balance_at o (slice_set bs k (get_or bs k 0 + amount)) ≡ paid + cond b amount 0
topped_by (Some j) true bs k paid amount inside is there here =
    let e : j ≡ k = some_is j k (there refl) in
    ap (λ (n : ℕ). get_or (slice_set bs k (get_or bs k 0 + amount)) n 0) e ∙ get_or-set_same bs k (get_or bs k 0 + amount) 0 inside ∙ ap (λ (n : ℕ). n + amount) (ap (λ (n : ℕ). get_or bs n 0) (sym e) ∙ is)
topped_by (Some j) false bs k paid amount inside is there here =
    get_or-set_other bs k j (get_or bs k 0 + amount) 0 (λ e. let t : false ≡ true = here (ap (λ (n : ℕ). Some n) e) in absurd cc) ∙ is ∙ omega arith
topped_by None true bs k paid amount inside is there here = let t : None ≡ Some k = there refl in absurd cc
topped_by None false bs k paid amount inside is there here = is ∙ omega arith

pays_topped : (vs : List Validator) (bs : List ℕ) (before : List DepositData) (d : DepositData) (k : ℕ) (v : Validator) → length bs ≡ length vs → index_of_pubkey vs d.pubkey ≡ Some k → Pays vs bs before → Pays vs (slice_set bs k (get_or bs k 0 + d.amount)) (before ++ d ∷ [])
pays_topped vs bs before d k v paired at pays q =
    let here = index_at vs d.pubkey k v at in
    topped_by (index_of_pubkey vs q) (same_pubkey q d.pubkey) bs k (paid_to q before) d.amount (let h = here.0 in omega arith) (pays q)
    (λ same. ap (index_of_pubkey vs) (key_is q d.pubkey same) ∙ at)
    (λ is. is_key q d.pubkey ((index_at vs q k v is).1 ∙ sym here.1))
    ∙ sym (paid_push q before d)

-- ---- the making

-- the making ends as the deposits' amounts say
abbrev pub Agrees : Initialized → Option ℕ → Type 0
Agrees (made state) None = Unit {0}
Agrees (made state) (Some i) = ⊥
Agrees (refused_at i why) None = ⊥
Agrees (refused_at i why) (Some j) = (i ≡ j) × (why ≡ Overflow)
Agrees (limited_at i bound) o = ⊥

module _ (start : PlainState) (limit : 2 ^ 32 ≤ start.preset.validator_registry_limit) where
  -- one deposit: it fits, and leads to a state whose balances are paid, or it doesn't
  abbrev StepsPaid : List DepositData → DepositData → Outcome PlainState → Type 0
  StepsPaid before d outcome =
      ((t : PlainState) × (outcome ≡ done t) × IsBehind start (length before + 1) t × Pays t.validators t.balances (before ++ d ∷ []) × (paid_to d.pubkey before + d.amount < 2 ^ 64))
      ⊎ ((outcome ≡ refused Overflow) × (2 ^ 64 ≤ paid_to d.pubkey before + d.amount))

  paid_by : (found : Option ℕ) (fits : Bool) (s : PlainState) (before : List DepositData) (d : DepositData) → index_of_pubkey s.validators d.pubkey ≡ found → ltb (balance_at found s.balances + d.amount) (2 ^ 64) ≡ fits → length before < 2 ^ 32 → deposit_data_codec.Within d
      → IsBehind start (length before) s → Pays s.validators s.balances before → StepsPaid before d (credit_deposit (counted s (before ++ d ∷ [])) (with_branch before d) found)
  unfolding get_validator_from_deposit
  paid_by None fits s before d is fit few within behind pays =
      let c : PlainState = counted s (before ++ d ∷ []) in
      let new : Validator = get_validator_from_deposit c (with_branch before d) in
      let p : s.preset.validator_registry_limit ≡ start.preset.validator_registry_limit = preset_is start limit (length before) s behind in
      let room : length s.validators < s.preset.validator_registry_limit = let held = behind.few in omega arith in
      let also : length s.balances < s.preset.validator_registry_limit = let e = behind.paired in omega arith in
      let nothing : 0 ≡ paid_to d.pubkey before = ap (λ (o : Option ℕ). balance_at o s.balances) (sym is) ∙ pays d.pubkey in
      let low : d.amount < 2 ^ 64 = within.0.0.1 in
      inl (_, joined c (with_branch before d) room also, behind_joined start limit s before d within behind, pays_joined s.validators new s.balances before d behind.paired refl is pays, omega arith)
  paid_by (Some k) true s before d is fit few within behind pays =
      let c : PlainState = counted s (before ++ d ∷ []) in
      let new : Validator = get_validator_from_deposit c (with_branch before d) in
      let inside = (index_at s.validators d.pubkey k new is).0 in
      let item : slice_get s.balances k ≡ Some (get_or s.balances k 0) = slice_get-get_or s.balances k 0 (let e = behind.paired in omega arith) in
      let paid : get_or s.balances k 0 ≡ paid_to d.pubkey before = ap (λ (o : Option ℕ). balance_at o s.balances) (sym is) ∙ pays d.pubkey in
      let n : ℕ = get_or s.balances k 0 + d.amount in
      let low : n < 2 ^ 64 = ltb-true n (2 ^ 64) fit in
      inl (
        _,
        topped c (with_branch before d) k (get_or s.balances k 0) item ∙ ap (λ (b : Bool). cond b (done (record c { balances = slice_set c.balances k n })) (refused Overflow)) fit,
        behind_topped start limit s before d k n low behind,
        pays_topped s.validators s.balances before d k new behind.paired is pays,
        omega arith,
      )
  paid_by (Some k) false s before d is fit few within behind pays =
      let c : PlainState = counted s (before ++ d ∷ []) in
      let new : Validator = get_validator_from_deposit c (with_branch before d) in
      let inside = (index_at s.validators d.pubkey k new is).0 in
      let item : slice_get s.balances k ≡ Some (get_or s.balances k 0) = slice_get-get_or s.balances k 0 (let e = behind.paired in omega arith) in
      let paid : get_or s.balances k 0 ≡ paid_to d.pubkey before = ap (λ (o : Option ℕ). balance_at o s.balances) (sym is) ∙ pays d.pubkey in
      let n : ℕ = get_or s.balances k 0 + d.amount in
      let high : 2 ^ 64 ≤ n = ltb-false n (2 ^ 64) fit in
      inr (topped c (with_branch before d) k (get_or s.balances k 0) item ∙ ap (λ (b : Bool). cond b (done (record c { balances = slice_set c.balances k n })) (refused Overflow)) fit, omega arith)

  deposit_pays : (s : PlainState) (before : List DepositData) (d : DepositData) → length before < 2 ^ 32 → deposit_data_codec.Within d → IsBehind start (length before) s → Pays s.validators s.balances before
      → StepsPaid before d (process_genesis_deposit s before d)
  deposit_pays s before d few within behind pays =
      let at : s.eth1_deposit_index ≡ length before = ap (λ (x : PlainState). x.eth1_deposit_index) behind.same in
      subst (StepsPaid before d) (sym (step_is s before d at few)) (paid_by (index_of_pubkey s.validators d.pubkey) _ s before d refl refl few within behind pays)

  -- the making stops exactly at the first deposit whose amount doesn't fit
  pub ends_exactly : (deposits : List DepositData) (s : PlainState) (before : List DepositData) → length before + length deposits ≤ 2 ^ 32 → AllByRecursion deposit_data_codec.Within deposits → IsBehind start (length before) s → Pays s.validators s.balances before
      → Agrees (process_genesis_deposits s before deposits) (first_overflow before deposits)
  unfolding process_genesis_deposits first_overflow
  ends_exactly [] s before few within behind pays = tt
  ends_exactly (d ∷ deposits) s before few within behind pays =
      let more = before ++ d ∷ [] in
      let long : length more ≡ length before + 1 = length_push before d in
      let next = λ (t : PlainState). process_genesis_deposits t more deposits in
      let sum : ℕ = paid_to d.pubkey before + d.amount in
      let rest = first_overflow more deposits in
      elim (deposit_pays s before d (omega arith) within.0 behind pays) [
        | inl on ↦
            subst (λ (o : Outcome PlainState). Agrees (deposit_then (length before) o next) (cond (ltb sum (2 ^ 64)) rest (Some (length before)))) (sym on.1)
            (subst (λ (b : Bool). Agrees (next on.0) (cond b rest (Some (length before)))) (sym (lt-ltb sum (2 ^ 64) on.4))
            (ends_exactly deposits on.0 more (omega arith) within.1 (subst (λ (n : ℕ). IsBehind start n on.0) (sym long) on.2) on.3))
        | inr stops ↦
            subst (λ (o : Outcome PlainState). Agrees (deposit_then (length before) o next) (cond (ltb sum (2 ^ 64)) rest (Some (length before)))) (sym stops.0)
            (subst (λ (b : Bool). Agrees (refused_at (length before) Overflow) (cond b rest (Some (length before)))) (sym (le-ltb sum (2 ^ 64) stops.1)) (refl, refl))
      ]

nothing_paid : (p : Preset) (version eth1_hash : List ℕ) (time : ℕ) (count : ℕ) → Pays (state_before_deposits p version eth1_hash time count).validators (state_before_deposits p version eth1_hash time count).balances []
unfolding state_before_deposits index_of_pubkey paid_to
nothing_paid p version eth1_hash time count q = refl

-- it ends where each amount fits, and else is refused at the first that doesn't
pub agrees_before : (p : Preset) (version eth1_hash : List ℕ) (time : ℕ) (deposits : List DepositData) → IsPreset p → length deposits ≤ 2 ^ 32 → AllByRecursion deposit_data_codec.Within deposits
    → Agrees (process_genesis_deposits (state_before_deposits p version eth1_hash time (length deposits)) [] deposits) (first_overflow [] deposits)
agrees_before p version eth1_hash time deposits preset few within =
    let start : PlainState = state_before_deposits p version eth1_hash time (length deposits) in
    ends_exactly start (limit_of p version eth1_hash time (length deposits) preset) deposits start [] (omega arith) within (none_behind p version eth1_hash time (length deposits)) (nothing_paid p version eth1_hash time (length deposits))
