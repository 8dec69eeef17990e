-- The stop of a first step is the stop of both.
use Rattle.std.proofs.Common.{ap}
use Rattle.bc_words.specs.Outcome.{Outcome, bind, Stops, StopsExactly}
use Rattle.bc_words.specs.declared.stop.Stop.{Stop}
use Rattle.bc_words.specs.declared.stop.Stop.TheVariants as stops

pub stops_bound : {A B : Type 0} (stop : Stop) (outcome : Outcome A) (next : A → Outcome B) → Stops stop outcome → Stops stop (bind outcome next)
stops_bound (stops.Refused why) outcome next e = ap (λ o. bind o next) e
stops_bound (stops.Limit bound) outcome next e = ap (λ o. bind o next) e
stops_bound stops.NoMemory outcome next e = tt

pub exactly_bound : {A B : Type 0} (stop : Stop) (outcome : Outcome A) (next : A → Outcome B) → StopsExactly stop outcome → StopsExactly stop (bind outcome next)
exactly_bound (stops.Refused why) outcome next e = ap (λ o. bind o next) e
exactly_bound (stops.Limit bound) outcome next e = ap (λ o. bind o next) e
exactly_bound stops.NoMemory outcome next e = e

-- a stop of a call that takes no memory is one of a call that may
pub stops_exactly : {A : Type 0} (stop : Stop) (outcome : Outcome A) → StopsExactly stop outcome → Stops stop outcome
stops_exactly (stops.Refused why) outcome e = e
stops_exactly (stops.Limit bound) outcome e = e
stops_exactly stops.NoMemory outcome e = tt
