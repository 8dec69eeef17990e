-- The blocks that are kept grow with a history.
use Rattle.std.proofs.Common.{◌≡◌, ◌∙◌, ℕ, ◌+◌, ◌-◌, ◌≤◌, ◌<◌, ◌^◌, not, Bool, true, false, cond, List, [], ◌∷◌, ◌++◌, length, take, Option, zero, suc, subst, Some, None, refl, sym, ap, arith, length-append}
use Rattle.std.specs.List.{position_or_len}
use Rattle.std.specs.Option.{option_map}
use Rattle.std.proofs.lemmas.Option.{same_Some}
use Rattle.std.proofs.lemmas.List.{take_all, take-append-le}
use Rattle.std.proofs.lemmas.List.Sums.{prefix_len-le-length}
use Rattle.beacon_types.specs.declared.checkpoint.Checkpoint.{Checkpoint}
use Rattle.bc_preset.specs.declared.configuration.ConfigValues.{ConfigValues}
use Rattle.beacon_types.specs.declared.block.BeaconBlock.{BeaconBlock}
use Rattle.spec_state.specs.declared.plain.PlainState.{PlainState}
use Rattle.beacon_types.specs.Equality.{same_root}
use Rattle.spec_fork_choice.specs.Store.{KeptBlock, block_of, is_kept}
use Rattle.spec_fork_choice.specs.Clash.{is_another, place_of}
use Rattle.spec_forensics.specs.Histories.{AcceptedBlock}
use Rattle.spec_forensics.specs.Clash.{kept_block, first_accepted, clash_among, first_or_second, clash_with}
use Rattle.forensics.specs.Books.{PlainBook, begun, with_block, with_finalized}
use Rattle.forensics.specs.inside.Kept.{with_kept, kept_first, kept_second, AreKept}

with_same : (genesis : PlainState) (b : AcceptedBlock) (blocks : List AcceptedBlock) → with_kept (first_accepted genesis blocks) (kept_block b) ≡ first_accepted genesis (b ∷ blocks)
unfolding with_kept first_accepted
with_same genesis b blocks = refl

-- there are no more of them than blocks that were added, and genesis
one_at_most : (kept : List KeptBlock) (k : KeptBlock) (b : Bool) → length (cond b kept (kept ++ k ∷ [])) ≤ length kept + 1
one_at_most kept k true = omega arith
one_at_most kept k false = let e : length (kept ++ k ∷ []) ≡ length kept + 1 = length-append kept (k ∷ []) in omega arith

pub few_kept : (genesis : PlainState) (blocks : List AcceptedBlock) → length (first_accepted genesis blocks) ≤ length blocks + 1
unfolding first_accepted
few_kept genesis [] = omega arith
few_kept genesis (b ∷ blocks) =
    let m = one_at_most (first_accepted genesis blocks) (kept_block b) (is_kept (first_accepted genesis blocks) b.root) in
    let h = few_kept genesis blocks in
    omega arith

-- the place of a clash is at most how many there are
place_by : (b : Bool) (place n most : ℕ) → place ≤ most → Some n ≡ cond b (Some place) None → n ≤ most
place_by true place n most low e = let same : n ≡ place = same_Some n place e in omega arith
place_by false place n most low e = absurd cc

pub clash_fits : (kept : List KeptBlock) (root : List ℕ) (block : BeaconBlock) (n : ℕ) → Some n ≡ clash_among kept root block → n ≤ length kept
unfolding clash_among place_of
clash_fits kept root block n e =
    let most : position_or_len (λ (k : KeptBlock). same_root k.root root) kept ≤ length kept = prefix_len-le-length (λ (k : KeptBlock). not (same_root k.root root)) kept in
    place_by (is_another (option_map (λ k. k.block) (block_of kept root)) block) (position_or_len (λ (k : KeptBlock). same_root k.root root) kept) n (length kept) most e

-- ---- the kept blocks of a book

kept_with : (book : PlainBook) (which : ℕ) (b : AcceptedBlock) (first second : List KeptBlock) → which < 2 → AreKept book first second → AreKept (with_block book which b) (kept_first which first (kept_block b)) (kept_second which second (kept_block b))
unfolding with_block kept_first kept_second
kept_with book zero b first second low are = record {
  first_are = ap (λ (ks : List KeptBlock). with_kept ks (kept_block b)) are.first_are ∙ with_same book.genesis b book.first;
  second_are = are.second_are;
}
kept_with book (suc zero) b first second low are = record {
  first_are = are.first_are;
  second_are = ap (λ (ks : List KeptBlock). with_kept ks (kept_block b)) are.second_are ∙ with_same book.genesis b book.second;
}
kept_with book (suc (suc n)) b first second low are = absurd (omega arith)

pub are_kept_with : (book now : PlainBook) (which : ℕ) (b : AcceptedBlock) (first second first_now second_now : List KeptBlock) → which < 2 → AreKept book first second → now ≡ with_block book which b
    → first_now ≡ kept_first which first (kept_block b) → second_now ≡ kept_second which second (kept_block b) → AreKept now first_now second_now
are_kept_with book now which b first second first_now second_now low are is one other =
    subst (λ (k : PlainBook). AreKept k first_now second_now) (sym is)
    (subst (λ (ks : List KeptBlock). AreKept (with_block book which b) ks second_now) (sym one)
    (subst (λ (ks : List KeptBlock). AreKept (with_block book which b) (kept_first which first (kept_block b)) ks) (sym other)
    (kept_with book which b first second low are)))

-- a block that was kept is dropped again
drop_kept : (blocks : List KeptBlock) (k : KeptBlock) (b : Bool) → take (length blocks) (cond b blocks (blocks ++ k ∷ [])) ≡ blocks
drop_kept blocks k true = take_all (length blocks) blocks (omega arith)
drop_kept blocks k false = take-append-le (length blocks) blocks (k ∷ []) (omega arith) ∙ take_all (length blocks) blocks (omega arith)

dropped : (blocks : List KeptBlock) (k : KeptBlock) → take (length blocks) (with_kept blocks k) ≡ blocks
unfolding with_kept
dropped blocks k = drop_kept blocks k (is_kept blocks k.root)

drops_first : (which : ℕ) (blocks : List KeptBlock) (k : KeptBlock) → which < 2 → take (length blocks) (kept_first which blocks k) ≡ blocks
unfolding kept_first
drops_first zero blocks k low = dropped blocks k
drops_first (suc zero) blocks k low = take_all (length blocks) blocks (omega arith)
drops_first (suc (suc n)) blocks k low = absurd (omega arith)

drops_second : (which : ℕ) (blocks : List KeptBlock) (k : KeptBlock) → which < 2 → take (length blocks) (kept_second which blocks k) ≡ blocks
unfolding kept_second
drops_second zero blocks k low = take_all (length blocks) blocks (omega arith)
drops_second (suc zero) blocks k low = dropped blocks k
drops_second (suc (suc n)) blocks k low = absurd (omega arith)

pub are_kept_still : (book now : PlainBook) (which count other_count : ℕ) (k : KeptBlock) (first second first_then second_then first_now second_now : List KeptBlock) → which < 2 → AreKept book first second → now ≡ book
    → count ≡ length first → other_count ≡ length second → first_then ≡ kept_first which first k → second_then ≡ kept_second which second k → first_now ≡ take count first_then → second_now ≡ take other_count second_then → AreKept now first_now second_now
are_kept_still book now which count other_count k first second first_then second_then first_now second_now low are is many others one other cut other_cut =
    let back : first_now ≡ first = cut ∙ ap (λ (n : ℕ). take n first_then) many ∙ ap (take (length first)) one ∙ drops_first which first k low in
    let other_back : second_now ≡ second = other_cut ∙ ap (λ (n : ℕ). take n second_then) others ∙ ap (take (length second)) other ∙ drops_second which second k low in
    subst (λ (b : PlainBook). AreKept b first_now second_now) (sym is) (record { first_are = back ∙ are.first_are; second_are = other_back ∙ are.second_are })

-- at the beginning
pub are_kept_first : (config : ConfigValues) (genesis : PlainState) (book : PlainBook) (first second : List KeptBlock) → book ≡ begun config genesis → first ≡ first_accepted genesis [] → second ≡ first_accepted genesis [] → AreKept book first second
unfolding begun
are_kept_first config genesis book first second is one other = subst (λ (b : PlainBook). AreKept b first second) (sym is) (record { first_are = one; second_are = other })

-- ---- clashes among them

few_by : (genesis : PlainState) (blocks : List AcceptedBlock) (kept : List KeptBlock) → kept ≡ first_accepted genesis blocks → length blocks < 2 ^ 32 - 1 → length kept < 2 ^ 32
few_by genesis blocks kept are few = let most = few_kept genesis blocks in let same : length kept ≡ length (first_accepted genesis blocks) = ap length are in omega arith

pub few_first : (book view : PlainBook) (first second : List KeptBlock) → book ≡ view → AreKept book first second → length view.first + length view.second < 2 ^ 32 - 1 → length first < 2 ^ 32
few_first book view first second is are few = few_by book.genesis book.first first are.first_are (let e : length book.first ≡ length view.first = ap (λ (b : PlainBook). length b.first) is in omega arith)

pub few_second : (book view : PlainBook) (first second : List KeptBlock) → book ≡ view → AreKept book first second → length view.first + length view.second < 2 ^ 32 - 1 → length second < 2 ^ 32
few_second book view first second is are few = few_by book.genesis book.second second are.second_are (let e : length book.second ≡ length view.second = ap (λ (b : PlainBook). length b.second) is in omega arith)

pub clash_kept : (book view : PlainBook) (first second : List KeptBlock) (root : List ℕ) (block : BeaconBlock) (result : Option (ℕ × ℕ)) → book ≡ view → AreKept book first second
    → result ≡ first_or_second (clash_among first root block) (clash_among second root block) → result ≡ clash_with view.genesis view.first view.second root block
unfolding clash_with
clash_kept book view first second root block result is are gives =
    gives
    ∙ ap (λ (ks : List KeptBlock). first_or_second (clash_among ks root block) (clash_among second root block)) are.first_are
    ∙ ap (λ (ks : List KeptBlock). first_or_second (clash_among (first_accepted book.genesis book.first) root block) (clash_among ks root block)) are.second_are
    ∙ ap (λ (b : PlainBook). clash_with b.genesis b.first b.second root block) is

-- ---- a history is closed

kept_closed : (book : PlainBook) (which : ℕ) (finalized : Checkpoint) (first second : List KeptBlock) → which < 2 → AreKept book first second → AreKept (with_finalized book which finalized) first second
unfolding with_finalized
kept_closed book zero finalized first second low are = record { first_are = are.first_are; second_are = are.second_are }
kept_closed book (suc zero) finalized first second low are = record { first_are = are.first_are; second_are = are.second_are }
kept_closed book (suc (suc n)) finalized first second low are = absurd (omega arith)

pub are_kept_closed : (book now : PlainBook) (which : ℕ) (finalized : Checkpoint) (first second : List KeptBlock) → which < 2 → AreKept book first second → now ≡ with_finalized book which finalized → AreKept now first second
are_kept_closed book now which finalized first second low are is = subst (λ (b : PlainBook). AreKept b first second) (sym is) (kept_closed book which finalized first second low are)
