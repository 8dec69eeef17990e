-- The order of delivery, as the events come one after the other.
use Rattle.std.specs.Prelude.{ℕ, ◌+◌, List, [], ◌∷◌, ◌++◌}
use Rattle.node_drill.specs.declared.delivery.Delivery.{Delivery}
use Rattle.node_drill.specs.declared.delivery.Delivery.TheVariants.{Tick, Once, Twice, Late}

-- The places of events in the order in which they are delivered, where these wait for the next tick and the first of the events has
-- this place. What is late waits behind those that wait already, and where no tick follows it comes at the end
unfoldable pub arrivals : List ℕ → ℕ → List Delivery → List ℕ
arrivals waiting place [] = waiting
arrivals waiting place (Tick ∷ later) = place ∷ (waiting ++ arrivals [] (place + 1) later)
arrivals waiting place (Once ∷ later) = place ∷ arrivals waiting (place + 1) later
arrivals waiting place (Twice ∷ later) = place ∷ (place ∷ arrivals waiting (place + 1) later)
arrivals waiting place (Late ∷ later) = arrivals (waiting ++ place ∷ []) (place + 1) later
