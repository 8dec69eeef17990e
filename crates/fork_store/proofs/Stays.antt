-- What made room for more, and nothing else.
use Rattle.std.proofs.Common.{◌≡◌, ◌∙◌, ℕ, List, Result, Ok, Err, IfErr, refl, sym, ap, subst}
use Rattle.bc_preset.specs.declared.configuration.ConfigValues.{ConfigValues}
use Rattle.beacon_types.specs.declared.signed_block.SignedBeaconBlock.{SignedBeaconBlock}
use Rattle.block_array.specs.PlainArray.{PlainArray}
use Rattle.block_array.specs.Calls.{with_spare}
use Rattle.state_keeper.specs.Chain.{ChainBlock, Kept}
use Rattle.fork_store.specs.Stays.{ArrayStays, KeeperStays}

pub array_unchanged : (old new : PlainArray) → new ≡ old → ArrayStays old new
array_unchanged old new is = subst (ArrayStays old) (sym is) refl

pub array_spared : (old new : PlainArray) (validators : ℕ) → new ≡ with_spare old validators → ArrayStays old new
array_spared old new validators is = subst (ArrayStays old) (sym is) refl

pub keeper_unchanged : (old new : Kept ConfigValues SignedBeaconBlock) → new ≡ old → KeeperStays old new
keeper_unchanged old new is = subst (KeeperStays old) (sym is) refl

-- behind a step that left the keeper as it was
pub keeper_behind : (old mid new : Kept ConfigValues SignedBeaconBlock) → mid ≡ old → KeeperStays mid new → KeeperStays old new
keeper_behind old mid new same is = subst (λ k. KeeperStays k new) same is

-- which takes the same steps, and has the same blocks after a stop
pub keeper_spared : {U E : Type 0} (result : Result U E) (old new : Kept ConfigValues SignedBeaconBlock) → new.stepper ≡ old.stepper → IfErr result (λ _. new.blocks ≡ old.blocks) → IfErr result (λ _. KeeperStays old new)
keeper_spared (Ok x) old new stepper blocks = tt
keeper_spared (Err stop) old new stepper blocks =
    ap (λ (p : ConfigValues). record { stepper = p; blocks = new.blocks; spare = new.spare }) stepper
    ∙ ap (λ (bs : List (ChainBlock SignedBeaconBlock)). record { stepper = old.stepper; blocks = bs; spare = new.spare }) blocks

-- what holds is left by a stop
pub stop_leaves : {U E P : Type 0} (result : Result U E) → P → IfErr result (λ _. P)
stop_leaves (Ok x) p = tt
stop_leaves (Err stop) p = p
