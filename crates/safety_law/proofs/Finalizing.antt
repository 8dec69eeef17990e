-- The block that finalised what a history finalised above epoch 0.
use Rattle.std.proofs.Common.{◌≡◌, ◌∙◌, ◌<◌, inl, inr, ℕ, Bool, true, false, List, [], ◌∷◌, reverse, Option, Some, refl, sym, ap, subst, arith}
use Rattle.std.specs.List.{AllByRecursion, find}
use Rattle.std.specs.Option.{option_map_or}
use Rattle.std.proofs.lemmas.Bool.{false≢true}
use Rattle.std.proofs.lemmas.List.{reverse-append, reverse-reverse}
use Rattle.bc_preset.specs.declared.configuration.ConfigValues.{ConfigValues}
use Rattle.beacon_types.specs.Equality.{same_checkpoint}
use Rattle.beacon_types.proofs.Equality.{checkpoint_decides}
use Rattle.beacon_types.specs.declared.checkpoint.Checkpoint.{Checkpoint}
use Rattle.spec_state.specs.declared.plain.PlainState.{PlainState}
use Rattle.ffg_law.specs.Links.{IsOneOf}
use Rattle.spec_forensics.specs.Histories.{AcceptedBlock, chain_to, state_behind, IsHistory}
use Rattle.spec_forensics.specs.Steady.{IsSteadyAt}
use Rattle.spec_forensics.specs.Verdict.{finalizing_root, finalizing_chain}
use Rattle.vote_law.proofs.Lists.{with_last}
use Rattle.safety_law.specs.Histories.{HaveOneContent, NoneIsGenesis}
use Rattle.safety_law.specs.Finals.{IsFinalizedBy, IsFinalOf, StaysSteady}
use Rattle.safety_law.proofs.Lists.{one_of, of_one, of_reverse, in_reverse}
use Rattle.safety_law.proofs.Chains.{behind_block}
use Rattle.safety_law.proofs.Goes.{IsSteadyChain}

record FoundIn {A : Type 0} (p : A → Bool) (xs : List A) : Type 0 where
  it : A
  found : find p xs ≡ Some it
  listed : IsOneOf it xs
  passes : p it ≡ true

found_case : {A : Type 0} (p : A → Bool) (y : A) (ys : List A) (x : A) (b : Bool) → p y ≡ b → IsOneOf x (y ∷ ys) → p x ≡ true → (IsOneOf x ys → p x ≡ true → FoundIn p ys) → FoundIn p (y ∷ ys)
found_case p y ys x true is h passes rest = record { it = y; found = rw is refl; listed = inl refl; passes = is }
found_case p y ys x false is (inl e) passes rest = absurd (false≢true (sym is ∙ (ap p e ∙ passes)))
found_case p y ys x false is (inr h) passes rest = let r = rest h passes in record { it = r.it; found = rw is r.found; listed = inr r.listed; passes = r.passes }

found_in : {A : Type 0} (p : A → Bool) (xs : List A) (x : A) → IsOneOf x xs → p x ≡ true → FoundIn p xs
found_in p [] x h passes = absurd h
found_in p (y ∷ ys) x h passes = found_case p y ys x (p y) refl h passes (found_in p ys x)

-- what a block of the history finalised, the chain to the first such block does
finalizing_is : (config : ConfigValues) (genesis : PlainState) (history : List AcceptedBlock) (final : Checkpoint) → IsHistory config genesis history → HaveOneContent history → NoneIsGenesis genesis history → IsFinalizedBy history final
    → (state_behind genesis (chain_to history (finalizing_root history final))).finalized_checkpoint ≡ final
unfolding finalizing_root
finalizing_is config genesis history final past content none by =
    let p : AcceptedBlock → Bool = λ (b : AcceptedBlock). same_checkpoint b.state.finalized_checkpoint final in
    let r = found_in p (reverse history) by.by (one_of (reverse history) by.by (in_reverse history by.by by.listed)) ((checkpoint_decides by.by.state.finalized_checkpoint final).1 by.is) in
    let root : option_map_or (λ (b : AcceptedBlock). b.root) (find p (reverse history)) [] ≡ r.it.root = ap (λ (o : Option AcceptedBlock). option_map_or (λ (b : AcceptedBlock). b.root) o []) r.found in
    ap (λ (k : List ℕ). (state_behind genesis (chain_to history k)).finalized_checkpoint) root
    ∙ (ap (λ (s : PlainState). s.finalized_checkpoint) (behind_block config genesis history r.it past content none (of_reverse history r.it (of_one (reverse history) r.it r.listed)))
    ∙ (checkpoint_decides r.it.state.finalized_checkpoint final).0 r.passes)

pub finalizes : (config : ConfigValues) (genesis : PlainState) (history : List AcceptedBlock) (final : Checkpoint) → IsHistory config genesis history → HaveOneContent history → NoneIsGenesis genesis history → 0 < final.epoch → IsFinalOf genesis history final
    → (state_behind genesis (chain_to history (finalizing_root history final))).finalized_checkpoint ≡ final
finalizes config genesis history final past content none above (inl first) = absurd (let zero = ap (λ (c : Checkpoint). c.epoch) first in omega arith)
finalizes config genesis history final past content none above (inr by) = finalizing_is config genesis history final past content none by

-- ---- the chain to it

all_reversed : {A : Type 0} (P : A → Type 0) (xs : List A) → AllByRecursion P xs → AllByRecursion P (reverse xs)
all_reversed P [] all = tt
all_reversed P (x ∷ xs) all = subst (λ ys. AllByRecursion P ys) (sym (reverse-append (x ∷ []) xs)) (with_last P (reverse xs) x (all_reversed P xs all.1) all.0)

pub steady_chain : (genesis : PlainState) (history : List AcceptedBlock) (final : Checkpoint) → StaysSteady genesis history final → IsSteadyChain genesis (chain_to history (finalizing_root history final))
unfolding finalizing_chain
steady_chain genesis history final stays =
    let chain : List AcceptedBlock = chain_to history (finalizing_root history final) in
    subst (IsSteadyChain genesis) (reverse-reverse chain) (all_reversed (λ b. AllByRecursion (IsSteadyAt genesis) b.entered) (reverse chain) stays)
