-- What a handler leaves after a stop.
use Rattle.std.proofs.Common.{◌≡◌, ◌∙◌, Bool, Result, Ok, Err, IfErr, refl, sym, ap, subst}
use Rattle.bc_words.specs.Events.{EventOutcome, StoreChanges}
use Rattle.bc_words.specs.Outcome.{Outcome, ChangesOrRefuses}
use Rattle.bc_words.specs.declared.refusal.Refusal.{Refusal}
use Rattle.bc_words.specs.declared.store_stop.StoreStop.{StoreStop}
use Rattle.bc_preset.specs.declared.configuration.ConfigValues.{ConfigValues}
use Rattle.beacon_types.specs.declared.signed_block.SignedBeaconBlock.{SignedBeaconBlock}
use Rattle.block_array.specs.PlainArray.{PlainArray}
use Rattle.spec_fork_choice.specs.Store.{Store}
use Rattle.state_keeper.specs.Chain.{Kept}
use Rattle.fork_store.specs.Events.{Accepts}
use Rattle.fork_store.specs.Stays.{ArrayStays, KeeperStays}
use Rattle.fork_store.specs.Seen.{Seen, StoreStays}

-- the same store stays, and its mark
pub same_stays : (old new : Seen) → new ≡ old → StoreStays old new
same_stays old new is = subst (StoreStays old) (sym is) (record { plain = refl; array = refl; keeper = refl })

pub store_unchanged : (s : Seen) → StoreStays s s
store_unchanged s = same_stays s s refl

pub mark_unchanged : {P : Type 0} (mark : Bool) → P → mark ≡ mark
mark_unchanged mark p = refl

pub ruleset unchanged = (store_unchanged, mark_unchanged)

module _ (old new : Store) (a b : PlainArray) (k l : Kept ConfigValues SignedBeaconBlock) (s : Seen) (seen : record { plain = old; array = a; keeper = k } ≡ s) where
  abbrev after : Seen
  after = record { plain = new; array = b; keeper = l }

  all_same : new ≡ old → b ≡ a → l ≡ k → after ≡ s
  all_same plain array keeper =
      ap (λ (p : Store). record { plain = p; array = b; keeper = l }) plain
      ∙ ap (λ (x : PlainArray). record { plain = old; array = x; keeper = l }) array
      ∙ ap (λ (x : Kept ConfigValues SignedBeaconBlock). record { plain = old; array = a; keeper = x }) keeper
      ∙ seen

  pub tick_stays : {U : Type 0} (result : Result U Refusal) (outcome : Outcome Store) → ChangesOrRefuses result old new outcome → IfErr result (λ _. b ≡ a) → l ≡ k → IfErr result (λ _. after ≡ s)
  tick_stays (Ok x) outcome is array keeper = tt
  tick_stays (Err why) outcome is array keeper = all_same is.0 array keeper

  pub vote_stays : {U : Type 0} (result : Result U StoreStop) (outcome : EventOutcome Store) → StoreChanges result old new outcome → IfErr result (λ _. b ≡ a) → l ≡ k → IfErr result (λ _. after ≡ s)
  vote_stays (Ok x) outcome is array keeper = tt
  vote_stays (Err stop) outcome is array keeper = all_same is.0 array keeper

  pub block_stays : {A : Type 0} (result : Result A StoreStop) (outcome : EventOutcome (Store × A)) → Accepts result old new outcome → IfErr result (λ _. ArrayStays a b) → IfErr result (λ _. KeeperStays k l) → IfErr result (λ _. StoreStays s after)
  block_stays (Ok x) outcome is array keeper = tt
  block_stays (Err stop) outcome is array keeper = subst (λ (x : Seen). StoreStays x after) seen (record { plain = is.0; array = array; keeper = keeper })
