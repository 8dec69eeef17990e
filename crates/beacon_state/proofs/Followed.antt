-- Lists of active validators that were followed through a change are those of the registry that it leaves, also where it was refused.
use Rattle.std.proofs.Common.{◌≡◌, ℕ, Bool, true, false, cond, List, [], ◌∷◌, ◌++◌, length, Result, Ok, Err, nat_lt, subst, sym}
use Rattle.bc_words.specs.Outcome.{done, refused, Pushes, Becomes, checked_push}
use Rattle.bc_words.specs.declared.refusal.Refusal.TheVariants.{ListFull}
use Rattle.bc_words.specs.declared.stop.NoMemory.{NoMemory}
use Rattle.bc_words.specs.declared.stop.PushStop.{PushStop}
use Rattle.beacon_types.specs.declared.validator.Validator.{Validator}
use Rattle.active_sets.specs.declared.active_lists.ActiveLists.{ActiveLists}
use Rattle.active_sets.specs.inside.Kept.{AreActiveIn}

pushed_is : (fits : Bool) (old new : List Validator) (v : Validator) → cond fits (done (old ++ v ∷ [])) (refused ListFull) ≡ done new → old ++ v ∷ [] ≡ new
pushed_is true old new v is = cc
pushed_is false old new v is = cc

pub active_pushed : {U : Type 0} (result : Result U PushStop) (old new : List Validator) (limit : ℕ) (v : Validator) (lists : ActiveLists)
    → Pushes result old new (checked_push limit old v) → AreActiveIn old lists → AreActiveIn (old ++ v ∷ []) lists → AreActiveIn new lists
unfolding checked_push
active_pushed (Ok x) old new limit v lists is before behind =
    subst (λ validators. AreActiveIn validators lists) (pushed_is (nat_lt (length old) limit) old new v is) behind
active_pushed (Err stop) old new limit v lists is before behind = subst (λ validators. AreActiveIn validators lists) (sym is.0) before

pub active_become : {U : Type 0} (result : Result U NoMemory) (old new with_change : List Validator) (lists : ActiveLists)
    → Becomes result old new with_change → AreActiveIn old lists → AreActiveIn with_change lists → AreActiveIn new lists
active_become (Ok x) old new with_change lists is before behind = subst (λ validators. AreActiveIn validators lists) (sym is) behind
active_become (Err stop) old new with_change lists is before behind = subst (λ validators. AreActiveIn validators lists) (sym is) before
