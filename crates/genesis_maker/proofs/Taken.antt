-- The loop over the deposits: those that were taken, and those that are to come.
use Rattle.std.proofs.Common.{◌≡◌, ◌∙◌, ℕ, zero, suc, ◌+◌, List, [], ◌∷◌, ◌++◌, length, take, drop, sym, ap, ap₂, subst, arith}
use Rattle.std.proofs.lemmas.List.{length-map, map_push}
use Rattle.hash_tree.specs.Merkle.{merkle_root, mix_in_length}
use Rattle.bc_words.specs.Outcome.{Outcome, done, Stops}
use Rattle.bc_words.specs.declared.stop.Stop.{Stop}
use Rattle.bc_words.specs.declared.stop.Stop.TheVariants as stops
use Rattle.beacon_types.specs.declared.deposit_data.DepositData.{DepositData}
use Rattle.beacon_types.specs.Containers.{deposit_contract_tree_depth, deposit_data_codec}
use Rattle.spec_state.specs.declared.plain.PlainState.{PlainState}
use Rattle.spec_blocks.specs.ProcessDeposit.{process_deposit}
use Rattle.spec_genesis.specs.Branches.{deposit_leaves, branch_of}
use Rattle.spec_genesis.specs.InitializeBeaconStateFromEth1.{Initialized, made, deposit_then, process_genesis_deposit, process_genesis_deposits}
use Rattle.spec_genesis.proofs.Deposits.{deposits_root_is}
use Rattle.genesis_maker.specs.inside.Making.{with_root, process_on_leaves, StopsAt}

-- the next item is taken
pub next_taken : {A : Type 0} (i : ℕ) (xs : List A) (x : A) (rest : List A) → drop i xs ≡ x ∷ rest → (take (i + 1) xs ≡ take i xs ++ x ∷ []) × (drop (i + 1) xs ≡ rest)
next_taken zero [] x rest is = absurd cc
next_taken zero (y ∷ ys) x rest is = let first : y ≡ x = cc in let behind : ys ≡ rest = cc in (ap (λ z. z ∷ []) first, behind)
next_taken (suc i) [] x rest is = absurd cc
next_taken (suc i) (y ∷ ys) x rest is =
    let more = next_taken i ys x rest is in
    let count : suc i + 1 ≡ suc (i + 1) = omega arith in
    (ap (λ n. take n (y ∷ ys)) count ∙ ap (λ zs. y ∷ zs) more.0, ap (λ n. drop n (y ∷ ys)) count ∙ more.1)

-- a deposit behind others that are known by their leaves is one behind these
pub on_leaves_is : (s : PlainState) (before : List DepositData) (deposit : DepositData) → process_on_leaves s (deposit_leaves before) deposit ≡ process_genesis_deposit s before deposit
unfolding process_genesis_deposit
on_leaves_is s before deposit =
    let so_far = before ++ deposit ∷ [] in
    let leaves : deposit_leaves before ++ deposit_data_codec.hash_tree_root deposit ∷ [] ≡ deposit_leaves so_far = sym (map_push deposit_data_codec.hash_tree_root before deposit) in
    ap (λ (ls : List (List ℕ)). process_deposit (with_root s (mix_in_length (merkle_root deposit_contract_tree_depth ls) (length ls))) (record { proof = branch_of ls (length (deposit_leaves before)); content = deposit })) leaves
    ∙ ap₂ (λ (root : List ℕ) (n : ℕ). process_deposit (with_root s root) (record { proof = branch_of (deposit_leaves so_far) n; content = deposit })) (deposits_root_is so_far) (length-map before deposit_data_codec.hash_tree_root)

pub one_processed : (s t : PlainState) (before : List DepositData) (deposit : DepositData) (rest : List DepositData) → process_on_leaves s (deposit_leaves before) deposit ≡ done t
    → process_genesis_deposits s before (deposit ∷ rest) ≡ process_genesis_deposits t (before ++ deposit ∷ []) rest
unfolding process_genesis_deposits
one_processed s t before deposit rest is =
    ap (λ (o : Outcome PlainState). deposit_then (length before) o (λ next. process_genesis_deposits next (before ++ deposit ∷ []) rest)) (sym (on_leaves_is s before deposit) ∙ is)

stops_by : (stop : Stop) (index : ℕ) (o : Outcome PlainState) (next : PlainState → Initialized) → Stops stop o → StopsAt index stop (deposit_then index o next)
stops_by (stops.Refused why) index o next is = ap (λ (x : Outcome PlainState). deposit_then index x next) is
stops_by (stops.Limit bound) index o next is = ap (λ (x : Outcome PlainState). deposit_then index x next) is
stops_by stops.NoMemory index o next is = tt

pub one_stops : (stop : Stop) (s : PlainState) (before : List DepositData) (deposit : DepositData) (rest : List DepositData) (index : ℕ) → index ≡ length before → Stops stop (process_on_leaves s (deposit_leaves before) deposit)
    → StopsAt index stop (process_genesis_deposits s before (deposit ∷ rest))
unfolding process_genesis_deposits
one_stops stop s before deposit rest index at is =
    subst (λ (n : ℕ). StopsAt n stop (process_genesis_deposits s before (deposit ∷ rest))) (sym at)
    (stops_by stop (length before) (process_genesis_deposit s before deposit) (λ next. process_genesis_deposits next (before ++ deposit ∷ []) rest) (subst (Stops stop) (on_leaves_is s before deposit) is))

pub all_processed : (s : PlainState) (before rest : List DepositData) → rest ≡ [] → process_genesis_deposits s before rest ≡ made s
unfolding process_genesis_deposits
all_processed s before rest none = ap (process_genesis_deposits s before) none
