-- What is known of a value once something was done.
use Rattle.std.proofs.Common.{◌≡◌, true, false, Result, Ok, Err, IfOk, OnOk, IsOk, IsErr, refl, subst, sym, ◌∙◌}
use Rattle.bc_words.specs.Outcome.{Outcome, done, refused, limited, Stops, Becomes}
use Rattle.bc_words.specs.declared.refusal.Refusal.{Refusal}
use Rattle.bc_words.specs.declared.stop.Limit.{Limit}
use Rattle.bc_words.specs.declared.stop.NoMemory.{NoMemory}
use Rattle.bc_words.specs.declared.stop.Stop.{Stop}
use Rattle.bc_words.specs.declared.stop.Stop.TheVariants as stops

-- what holds where it was done holds of the value that is answered where it was done
pub done_stands : {D S E F : Type 0} (steps : Result D E) (result : Result S F) (state : S) (P : S → Type 0) → IfOk result (λ s. s ≡ state) → OnOk result (IsOk steps) → OnOk steps (P state) → IfOk result P
done_stands (Ok d) (Ok s) state P same was stands = subst P (sym same) stands
done_stands (Err e) (Ok s) state P same was stands = absurd (let no : false ≡ true = was in cc)
done_stands steps (Err f) state P same was stands = tt

-- what is done is stopped by nothing but want of memory
pub stopped : {A : Type 0} (stop : Stop) (outcome : Outcome A) (value : A) → outcome ≡ done value → Stops stop outcome → stop ≡ stops.NoMemory
stopped (stops.Refused why) outcome value is stops = absurd (let e : done value ≡ refused why = sym is ∙ stops in cc)
stopped (stops.Limit bound) outcome value is stops = absurd (let e : done value ≡ limited bound = sym is ∙ stops in cc)
stopped stops.NoMemory outcome value is stops = refl

-- so no refusal and no limit stops it
pub not_refused : {A : Type 0} {why : Refusal} (stop : Stop) (outcome : Outcome A) (value : A) → outcome ≡ done value → Stops stop outcome → stop ≡ stops.Refused why → ⊥
not_refused {A} {why} stop outcome value is by why_is = let no : stops.NoMemory ≡ stops.Refused why = sym (stopped stop outcome value is by) ∙ why_is in cc

pub not_limited : {A : Type 0} {bound : Limit} (stop : Stop) (outcome : Outcome A) (value : A) → outcome ≡ done value → Stops stop outcome → stop ≡ stops.Limit bound → ⊥
not_limited {A} {bound} stop outcome value is by bound_is = let no : stops.NoMemory ≡ stops.Limit bound = sym (stopped stop outcome value is by) ∙ bound_is in cc

-- a refused answer leaves what was there
pub refused_as_before : {U A : Type 0} (result : Result U NoMemory) (old new value : A) → IsErr result → new ≡ old → Becomes result old new value
refused_as_before (Ok x) old new value err same = absurd (let no : false ≡ true = err in cc)
refused_as_before (Err e) old new value err same = same
