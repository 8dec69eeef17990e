-- What holds of a block whose state is known.
use Rattle.std.proofs.Common.{◌≡◌, ℕ, List, Option, Some, None, Result, Ok, Err, IfOk, IfSome, option_map, slice_get, subst, sym}
use Rattle.std.proofs.lemmas.Option.{same_Some}
use Rattle.std.proofs.lemmas.Result.{IfOk-weaker}
use Rattle.bc_words.specs.Outcome.{Outcome, done, Gives}
use Rattle.bc_words.specs.declared.stop.Stop.{Stop}
use Rattle.spec_state.specs.declared.plain.PlainState.{PlainState}
use Rattle.state_keeper.specs.Chain.{ChainBlock, HasState}

of_mapped : {X Y : Type 0} (f : X → Y) (P : Y → Type 0) (o : Option X) (y : Y) → option_map f o ≡ Some y → P y → IfSome o (λ x. P (f x))
of_mapped f P None y is holds = tt
of_mapped f P (Some x) y is holds = subst P (sym (same_Some (f x) y is)) holds

gives_done : {A : Type 0} (result : Result A Stop) (outcome : Outcome A) → Gives result outcome → IfOk result (λ x. outcome ≡ done x)
gives_done (Ok x) outcome gives = gives
gives_done (Err stop) outcome gives = tt

-- a step from the state of a block gives the state of the next
pub stepped_from : {B : Type 0} (blocks : List (ChainBlock B)) (n : ℕ) (before : PlainState) (step : PlainState → Outcome PlainState) (answer result : Result PlainState Stop) → answer ≡ result → HasState blocks n before → Gives result (step before) → IfOk answer (λ state. IfSome (slice_get blocks n) (λ b. step b.state ≡ done state))
stepped_from {B} blocks n before step answer result same has gives =
    subst (λ r. IfOk r (λ s. IfSome (slice_get blocks n) (λ b. step b.state ≡ done s))) (sym same)
    (IfOk-weaker result (λ s. step before ≡ done s) (λ s. IfSome (slice_get blocks n) (λ b. step b.state ≡ done s))
    (λ s is. of_mapped (λ (b : ChainBlock B). b.state) (λ p. step p ≡ done s) (slice_get blocks n) before has is)
    (gives_done result (step before) gives))
