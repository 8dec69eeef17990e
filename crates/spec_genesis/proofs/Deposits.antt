-- The deposits of a genesis are processed in their order: each branch holds, so that nothing but a balance that doesn't fit
-- stops them.
use Rattle.std.proofs.Common.{◌≡◌, ◌∙◌, ◌⊎◌, inl, inr, ℕ, zero, suc, ◌+◌, ◌^◌, ◌<◌, ◌≤◌, Bool, true, false, cond, ltb, List, [], ◌∷◌, ◌++◌, length, get_or, Option, Some, None, slice_get, slice_set, refl, sym, ap, ap₂, subst, arith}
use Rattle.std.specs.List.{AllByRecursion}
use Rattle.std.proofs.lemmas.Bool.{lt-ltb, ltb-true}
use Rattle.std.proofs.lemmas.List.{length-map, length-set, length_push, map_push, get_or_push}
use Rattle.std.proofs.lemmas.List.Quantifiers.{position-Some}
use Rattle.std.proofs.lemmas.Option.{slice_get-get_or}
use Rattle.hash_tree.specs.Merkle.{merkle_root, merkleize, mix_in_length, depth_of, depth_from}
use Rattle.ssz_codec.specs.Basic.{uint64, bytes32, bytes48}
use Rattle.bc_words.specs.Outcome.{Outcome, done, refused, bind, checked_add, checked_push}
use Rattle.bc_words.specs.declared.refusal.Refusal.TheVariants.{DpBranch, ListFull, Overflow}
use Rattle.beacon_types.specs.declared.deposit.Deposit.{Deposit}
use Rattle.beacon_types.specs.declared.deposit_data.DepositData.{DepositData}
use Rattle.beacon_types.specs.declared.eth1_data.Eth1Data.{Eth1Data}
use Rattle.beacon_types.specs.declared.validator.Validator.{Validator}
use Rattle.beacon_types.specs.Containers.{deposit_contract_tree_depth, deposit_data_codec}
use Rattle.spec_state.specs.declared.plain.PlainState.{PlainState}
use Rattle.spec_state.specs.Constants.{far_future_epoch}
use Rattle.spec_blocks.specs.Checks.{check, found}
use Rattle.spec_blocks.specs.IncreaseBalance.{increase_balance}
use Rattle.spec_blocks.specs.GetValidatorFromDeposit.{get_validator_from_deposit}
use Rattle.spec_blocks.specs.IsValidMerkleBranch.{is_valid_merkle_branch}
use Rattle.spec_blocks.specs.ProcessDeposit.{same_pubkey, index_of_pubkey, add_validator, credit_deposit, process_deposit}
use Rattle.spec_genesis.specs.Branches.{deposits_codec, deposit_leaves, branch_of}
use Rattle.spec_genesis.specs.InitializeBeaconStateFromEth1.{Initialized, made, refused_at, deposit_then, with_deposit_root, process_genesis_deposit, process_genesis_deposits}
use Rattle.spec_state.proofs.Digests.{hash_within}
use Rattle.spec_genesis.proofs.Subtrees.{branch_holds}

-- ---- the branch of the last deposit

pub deposits_root_is : (deposits : List DepositData) → mix_in_length (merkle_root deposit_contract_tree_depth (deposit_leaves deposits)) (length (deposit_leaves deposits)) ≡ deposits_codec.hash_tree_root deposits
unfolding merkleize depth_of depth_from
deposits_root_is deposits = ap (mix_in_length (merkle_root 32 (deposit_leaves deposits))) (length-map deposits deposit_data_codec.hash_tree_root)

pub deposits_root_within : (deposits : List DepositData) → bytes32.Within (deposits_codec.hash_tree_root deposits)
unfolding mix_in_length
deposits_root_within deposits = hash_within _

-- the branch of the last deposit leads to the root of the deposits so far
pub last_branch_holds : (before : List DepositData) (deposit : DepositData) → length before < 2 ^ 32
    → is_valid_merkle_branch (deposit_data_codec.hash_tree_root deposit) (branch_of (deposit_leaves (before ++ deposit ∷ [])) (length before)) (deposit_contract_tree_depth + 1) (length before) (deposits_codec.hash_tree_root (before ++ deposit ∷ [])) ≡ true
last_branch_holds before deposit few =
    let so_far = before ++ deposit ∷ [] in
    let leaves = deposit_leaves so_far in
    let long : length leaves ≡ length before + 1 = length-map so_far deposit_data_codec.hash_tree_root ∙ length_push before deposit in
    let last : get_or leaves (length before) [] ≡ deposit_data_codec.hash_tree_root deposit =
    ap (λ (ls : List (List ℕ)). get_or ls (length before) []) (map_push deposit_data_codec.hash_tree_root before deposit)
    ∙ get_or_push (deposit_leaves before) (deposit_data_codec.hash_tree_root deposit) [] (length before) (length-map before deposit_data_codec.hash_tree_root) in
    ap₂ (λ (leaf root : List ℕ). is_valid_merkle_branch leaf (branch_of leaves (length before)) (deposit_contract_tree_depth + 1) (length before) root) (sym last) (sym (deposits_root_is so_far))
    ∙ branch_holds leaves (length before) (omega arith) (omega arith)

-- ---- one deposit

-- the state on which an amount is credited
abbrev pub counted : PlainState → List DepositData → PlainState
counted s so_far = record (with_deposit_root s so_far) { eth1_deposit_index = s.eth1_deposit_index + 1 }

abbrev pub with_branch : List DepositData → DepositData → Deposit
with_branch before deposit = record { proof = branch_of (deposit_leaves (before ++ deposit ∷ [])) (length before); content = deposit }

-- its branch holds and the index fits, so that the amount is credited
pub step_is : (s : PlainState) (before : List DepositData) (deposit : DepositData) → s.eth1_deposit_index ≡ length before → length before < 2 ^ 32
    → process_genesis_deposit s before deposit ≡ credit_deposit (counted s (before ++ deposit ∷ [])) (with_branch before deposit) (index_of_pubkey s.validators deposit.pubkey)
unfolding process_genesis_deposit process_deposit checked_add
step_is s before deposit at few =
    let so_far = before ++ deposit ∷ [] in
    let w : PlainState = with_deposit_root s so_far in
    let d : Deposit = with_branch before deposit in
    let holds : is_valid_merkle_branch (deposit_data_codec.hash_tree_root deposit) d.proof 33 s.eth1_deposit_index (deposits_codec.hash_tree_root so_far) ≡ true =
    ap (λ (i : ℕ). is_valid_merkle_branch (deposit_data_codec.hash_tree_root deposit) d.proof 33 i (deposits_codec.hash_tree_root so_far)) at ∙ last_branch_holds before deposit few in
    ap (λ (b : Bool). bind (check b DpBranch) (λ _. bind (cond (ltb (s.eth1_deposit_index + 1) (2 ^ 64)) (done (s.eth1_deposit_index + 1)) (refused Overflow)) (λ next. credit_deposit (record w { eth1_deposit_index = next }) d (index_of_pubkey s.validators deposit.pubkey)))) holds
    ∙ ap (λ (b : Bool). bind (cond b (done (s.eth1_deposit_index + 1)) (refused Overflow)) (λ next. credit_deposit (record w { eth1_deposit_index = next }) d (index_of_pubkey s.validators deposit.pubkey))) (lt-ltb (s.eth1_deposit_index + 1) (2 ^ 64) (omega arith))

pub joined : (c : PlainState) (d : Deposit) → length c.validators < c.preset.validator_registry_limit → length c.balances < c.preset.validator_registry_limit
    → credit_deposit c d None ≡ done (record c { validators = c.validators ++ get_validator_from_deposit c d ∷ []; balances = c.balances ++ d.content.amount ∷ [] })
unfolding credit_deposit add_validator checked_push
joined c d room also =
    let new : Validator = get_validator_from_deposit c d in
    ap₂ (λ (a b : Bool). bind (cond a (done (c.validators ++ new ∷ [])) (refused ListFull)) (λ vs. bind (cond b (done (c.balances ++ d.content.amount ∷ [])) (refused ListFull)) (λ bs. done (record c { validators = vs; balances = bs }))))
    (lt-ltb (length c.validators) c.preset.validator_registry_limit room) (lt-ltb (length c.balances) c.preset.validator_registry_limit also)

moved : (fits : Bool) (n : ℕ) (f : ℕ → PlainState) → bind (cond fits (done n) (refused Overflow)) (λ more. done (f more)) ≡ cond fits (done (f n)) (refused Overflow)
moved true n f = refl
moved false n f = refl

pub topped : (c : PlainState) (d : Deposit) (k b : ℕ) → slice_get c.balances k ≡ Some b
    → credit_deposit c d (Some k) ≡ cond (ltb (b + d.content.amount) (2 ^ 64)) (done (record c { balances = slice_set c.balances k (b + d.content.amount) })) (refused Overflow)
unfolding credit_deposit increase_balance checked_add
topped c d k b is =
    ap (λ (o : Option ℕ). bind (found o) (λ balance. bind (cond (ltb (balance + d.content.amount) (2 ^ 64)) (done (balance + d.content.amount)) (refused Overflow)) (λ more. done (record c { balances = slice_set c.balances k more })))) is
    ∙ moved (ltb (b + d.content.amount) (2 ^ 64)) (b + d.content.amount) (λ more. record c { balances = slice_set c.balances k more })

-- ---- what holds of the state on the way

-- a validator that a deposit brought: it hasn't asked for anything yet
pub record IsFresh (v : Validator) : Type 0 where
  pub pubkey : bytes48.Within v.pubkey
  pub credentials : bytes32.Within v.withdrawal_credentials
  pub slashed : v.slashed ≡ false
  pub eligibility : v.activation_eligibility_epoch ≡ far_future_epoch
  pub activation : v.activation_epoch ≡ far_future_epoch
  pub exit : v.exit_epoch ≡ far_future_epoch
  pub withdrawable : v.withdrawable_epoch ≡ far_future_epoch

fresh : (c : PlainState) (d : Deposit) → deposit_data_codec.Within d.content → IsFresh (get_validator_from_deposit c d)
unfolding get_validator_from_deposit
fresh c d within = record {
  pubkey = within.0.0.0.0.1;
  credentials = within.0.0.0.1;
  slashed = refl;
  eligibility = refl;
  activation = refl;
  exit = refl;
  withdrawable = refl;
}

-- a state with other data of deposits and another registry
abbrev pub grown : PlainState → Eth1Data → ℕ → List Validator → List ℕ → PlainState
grown start eth1_data index validators balances = record start { eth1_data = eth1_data; eth1_deposit_index = index; validators = validators; balances = balances }

-- A state behind so many deposits on a first one
pub record IsBehind (start : PlainState) (count : ℕ) (s : PlainState) : Type 0 where
  pub same : s ≡ grown start s.eth1_data count s.validators s.balances
  pub eth1_data : s.eth1_data ≡ record start.eth1_data { deposit_root = s.eth1_data.deposit_root }
  pub root : bytes32.Within s.eth1_data.deposit_root
  pub paired : length s.balances ≡ length s.validators
  pub few : length s.validators ≤ count
  pub validators : AllByRecursion IsFresh s.validators
  pub balances : AllByRecursion uint64.Within s.balances

pub all_push : {A : Type 0} (P : A → Type 0) (xs : List A) (x : A) → AllByRecursion P xs → P x → AllByRecursion P (xs ++ x ∷ [])
all_push P [] x all here = (here, tt)
all_push P (y ∷ ys) x all here = (all.0, all_push P ys x all.1 here)

pub all_set : {A : Type 0} (P : A → Type 0) (xs : List A) (i : ℕ) (x : A) → AllByRecursion P xs → P x → AllByRecursion P (slice_set xs i x)
all_set P [] i x all here = tt
all_set P (y ∷ ys) zero x all here = (here, all.1)
all_set P (y ∷ ys) (suc i) x all here = (all.0, all_set P ys i x all.1 here)

-- A deposit is processed to a state of which this holds, or a balance doesn't fit
abbrev pub Steps : (PlainState → Type 0) → Outcome PlainState → Type 0
Steps P outcome = ((t : PlainState) × (outcome ≡ done t) × P t) ⊎ (outcome ≡ refused Overflow)

module _ (start : PlainState) (limit : 2 ^ 32 ≤ start.preset.validator_registry_limit) where
  pub preset_is : (count : ℕ) (s : PlainState) → IsBehind start count s → s.preset.validator_registry_limit ≡ start.preset.validator_registry_limit
  preset_is count s behind = ap (λ (x : PlainState). x.preset.validator_registry_limit) behind.same

  pub behind_joined : (s : PlainState) (before : List DepositData) (deposit : DepositData) → deposit_data_codec.Within deposit → IsBehind start (length before) s
      → let c = counted s (before ++ deposit ∷ []) in
      let d = with_branch before deposit in
      IsBehind start (length before + 1) (record c { validators = c.validators ++ get_validator_from_deposit c d ∷ []; balances = c.balances ++ d.content.amount ∷ [] })
  behind_joined s before deposit within behind =
      let c : PlainState = counted s (before ++ deposit ∷ []) in
      let d : Deposit = with_branch before deposit in
      let new : Validator = get_validator_from_deposit c d in
      let at : s.eth1_deposit_index ≡ length before = ap (λ (x : PlainState). x.eth1_deposit_index) behind.same in
      record {
        same = ap₂ (λ (x : PlainState) (n : ℕ). record x { eth1_data = c.eth1_data; eth1_deposit_index = n + 1; validators = s.validators ++ new ∷ []; balances = s.balances ++ deposit.amount ∷ [] }) behind.same at;
        eth1_data = ap (λ (e : Eth1Data). record e { deposit_root = c.eth1_data.deposit_root }) behind.eth1_data;
        root = deposits_root_within (before ++ deposit ∷ []);
        paired = length_push s.balances deposit.amount ∙ ap (λ (n : ℕ). n + 1) behind.paired ∙ sym (length_push s.validators new);
        few = let few = behind.few in omega (arith, length_push s.validators new);
        validators = all_push IsFresh s.validators new behind.validators (fresh c d within);
        balances = all_push uint64.Within s.balances deposit.amount behind.balances within.0.0.1;
      }

  pub behind_topped : (s : PlainState) (before : List DepositData) (deposit : DepositData) (k n : ℕ) → n < 2 ^ 64 → IsBehind start (length before) s
      → let c = counted s (before ++ deposit ∷ []) in
      IsBehind start (length before + 1) (record c { balances = slice_set c.balances k n })
  behind_topped s before deposit k n fits behind =
      let c : PlainState = counted s (before ++ deposit ∷ []) in
      let at : s.eth1_deposit_index ≡ length before = ap (λ (x : PlainState). x.eth1_deposit_index) behind.same in
      record {
        same = ap₂ (λ (x : PlainState) (m : ℕ). record x { eth1_data = c.eth1_data; eth1_deposit_index = m + 1; validators = s.validators; balances = slice_set s.balances k n }) behind.same at;
        eth1_data = ap (λ (e : Eth1Data). record e { deposit_root = c.eth1_data.deposit_root }) behind.eth1_data;
        root = deposits_root_within (before ++ deposit ∷ []);
        paired = length-set s.balances k n ∙ behind.paired;
        few = let few = behind.few in omega arith;
        validators = behind.validators;
        balances = all_set uint64.Within s.balances k n behind.balances fits;
      }

  topped_by : (fits : Bool) (s : PlainState) (before : List DepositData) (deposit : DepositData) (k n : ℕ) → ltb n (2 ^ 64) ≡ fits → IsBehind start (length before) s
      → let c = counted s (before ++ deposit ∷ []) in
      Steps (IsBehind start (length before + 1)) (cond fits (done (record c { balances = slice_set c.balances k n })) (refused Overflow))
  topped_by true s before deposit k n is behind = inl (_, refl, behind_topped s before deposit k n (ltb-true n (2 ^ 64) is) behind)
  topped_by false s before deposit k n is behind = inr refl

  credited : (found : Option ℕ) (s : PlainState) (before : List DepositData) (deposit : DepositData) → index_of_pubkey s.validators deposit.pubkey ≡ found → length before < 2 ^ 32 → deposit_data_codec.Within deposit → IsBehind start (length before) s
      → Steps (IsBehind start (length before + 1)) (credit_deposit (counted s (before ++ deposit ∷ [])) (with_branch before deposit) found)
  unfolding index_of_pubkey
  credited None s before deposit is few within behind =
      let c : PlainState = counted s (before ++ deposit ∷ []) in
      let p : s.preset.validator_registry_limit ≡ start.preset.validator_registry_limit = preset_is (length before) s behind in
      let room : length s.validators < s.preset.validator_registry_limit = let held = behind.few in omega arith in
      let also : length s.balances < s.preset.validator_registry_limit = let e = behind.paired in omega arith in
      inl (_, joined c (with_branch before deposit) room also, behind_joined s before deposit within behind)
  credited (Some k) s before deposit is few within behind =
      let c : PlainState = counted s (before ++ deposit ∷ []) in
      let inside : k < length s.validators = (position-Some (λ v. same_pubkey deposit.pubkey v.pubkey) s.validators k (get_validator_from_deposit c (with_branch before deposit)) is).0 in
      let item : slice_get s.balances k ≡ Some (get_or s.balances k 0) = slice_get-get_or s.balances k 0 (let e = behind.paired in omega arith) in
      let n : ℕ = get_or s.balances k 0 + deposit.amount in
      subst (Steps (IsBehind start (length before + 1))) (sym (topped c (with_branch before deposit) k (get_or s.balances k 0) item)) (topped_by (ltb n (2 ^ 64)) s before deposit k n refl behind)

  -- a deposit leads on, or its key's balance doesn't fit
  pub deposit_steps : (s : PlainState) (before : List DepositData) (deposit : DepositData) → length before < 2 ^ 32 → deposit_data_codec.Within deposit → IsBehind start (length before) s
      → Steps (IsBehind start (length before + 1)) (process_genesis_deposit s before deposit)
  deposit_steps s before deposit few within behind =
      let at : s.eth1_deposit_index ≡ length before = ap (λ (x : PlainState). x.eth1_deposit_index) behind.same in
      subst (Steps (IsBehind start (length before + 1))) (sym (step_is s before deposit at few)) (credited (index_of_pubkey s.validators deposit.pubkey) s before deposit refl few within behind)

  -- ---- all deposits

  -- The deposits from one place on up to another lead to a state, or a balance doesn't fit at one of them
  abbrev pub Ends : ℕ → ℕ → Initialized → Type 0
  Ends low high end =
      ((t : PlainState) × (end ≡ made t) × IsBehind start high t) ⊎ ((i : ℕ) × (end ≡ refused_at i Overflow) × (low ≤ i) × (i < high))

  pub deposits_end : (deposits : List DepositData) (s : PlainState) (before : List DepositData) (high : ℕ) → high ≡ length before + length deposits → high ≤ 2 ^ 32 → AllByRecursion deposit_data_codec.Within deposits → IsBehind start (length before) s
      → Ends (length before) high (process_genesis_deposits s before deposits)
  unfolding process_genesis_deposits
  deposits_end [] s before high is few within behind = inl (s, refl, subst (λ (n : ℕ). IsBehind start n s) (omega arith) behind)
  deposits_end (deposit ∷ deposits) s before high is few within behind =
      let more = before ++ deposit ∷ [] in
      let long : length more ≡ length before + 1 = length_push before deposit in
      let next = λ (t : PlainState). process_genesis_deposits t more deposits in
      elim (deposit_steps s before deposit (omega arith) within.0 behind) [
        | inl on ↦
            elim (deposits_end deposits on.0 more high (omega arith) few within.1 (subst (λ (n : ℕ). IsBehind start n on.0) (sym long) on.2)) [
              | inl ends ↦ inl (ends.0, ap (λ o. deposit_then (length before) o next) on.1 ∙ ends.1, ends.2)
              | inr stops ↦ inr (stops.0, ap (λ o. deposit_then (length before) o next) on.1 ∙ stops.1, (let low = stops.2 in omega arith), stops.3)
            ]
        | inr stops ↦ inr (length before, ap (λ o. deposit_then (length before) o next) stops, omega arith, omega arith)
      ]
