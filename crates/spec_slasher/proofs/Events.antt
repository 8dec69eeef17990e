-- The blocks of a run are accepted by events that rise.
use Rattle.std.proofs.Common.{◌≡◌, ℕ, ◌+◌, ◌<◌, List, ◌∷◌, Option, Some, None, refl, arith}
use Rattle.std.specs.List.{All}
use Rattle.std.specs.Option.{option_map_or}
use Rattle.std.proofs.lemmas.List.Elements.{All-cons, All-weaker}
use Rattle.spec_fork_choice.specs.Store.{Store, KeptBlock, block_of}
use Rattle.spec_fork_choice.specs.OnEvent.{Accepted, block, other}
use Rattle.spec_forensics.specs.Histories.{AcceptedBlock, with_event}
use Rattle.spec_slasher.specs.AttestationOf.{AreInOrder}

less_next : (m n : ℕ) → m < n → m < n + 1
less_next m n less = omega (arith, less)

weaker : (event : ℕ) (history : List AcceptedBlock) → All (λ (b : AcceptedBlock). b.event < event) history → All (λ (b : AcceptedBlock). b.event < event + 1) history
weaker event history below = All-weaker (λ (b : AcceptedBlock). b.event < event) (λ (b : AcceptedBlock). b.event < event + 1) (λ b less. less_next b.event event less) history below

module _ (event : ℕ) (history : List AcceptedBlock) (rise : AreInOrder history) (below : All (λ (b : AcceptedBlock). b.event < event) history) where
  with_kept : (make : KeptBlock → AcceptedBlock) → ((k : KeptBlock) → (make k).event ≡ event) → (o : Option KeptBlock) → AreInOrder (option_map_or (λ k. make k ∷ history) o history)
  with_kept make is None = rise
  with_kept make is (Some k) = (rw (is k) below, rise)

  pub rises : (store : Store) (accepted : Accepted) → AreInOrder (with_event event history store accepted)
  unfolding with_event
  rises store other = rise
  rises store (block given) = with_kept (λ k. record { event = event; root = given.root; block = k.block; state = k.state; entered = given.entered }) (λ k. refl) (block_of store.blocks given.root)

  below_kept : (make : KeptBlock → AcceptedBlock) → ((k : KeptBlock) → (make k).event ≡ event) → (o : Option KeptBlock) → All (λ (b : AcceptedBlock). b.event < event + 1) (option_map_or (λ k. make k ∷ history) o history)
  below_kept make is None = weaker event history below
  below_kept make is (Some k) = let same : (make k).event ≡ event = is k in All-cons (λ (b : AcceptedBlock). b.event < event + 1) (make k) history (omega (arith, same)) (weaker event history below)

  pub stays_below : (store : Store) (accepted : Accepted) → All (λ (b : AcceptedBlock). b.event < event + 1) (with_event event history store accepted)
  unfolding with_event
  stays_below store other = weaker event history below
  stays_below store (block given) = below_kept (λ k. record { event = event; root = given.root; block = k.block; state = k.state; entered = given.entered }) (λ k. refl) (block_of store.blocks given.root)
