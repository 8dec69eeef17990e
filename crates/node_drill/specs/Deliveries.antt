-- What a node is delivered of a list of events: ticks come in their place, and of the others some come late and some twice. Which do,
-- the bytes of digests say.
use Rattle.std.specs.Prelude.{◌≡◌, ℕ, ◌+◌, ◌<◌, ◌≤◌, Bool, true, false, ◌&&◌, List, [], ◌∷◌, ◌++◌, length, drop, filter, flat_map, slice_get, slice_index, nat_lt, ◌==◌, if◌then◌else◌}
use Rattle.std.specs.List.{All, count_by, filter_map, position_or_len, range_with_len}
use Rattle.std.specs.Option.{option_map_or}
use Rattle.hash_tree.specs.Merkle.{hash, uint_to_bytes}
use Rattle.record_file.specs.declared.event.Event.{Event}
use Rattle.node_drill.specs.declared.delivery.Delivery.{Delivery}
use Rattle.node_drill.specs.declared.delivery.Delivery.TheVariants.{Tick, Once, Twice, Late}

-- the byte that decides of an event: that of the node's place in hash(number as 8 bytes + the event's number as 8 bytes)
unfoldable pub delivery_byte : ℕ → ℕ → ℕ → ℕ
delivery_byte number node i = slice_index (hash (uint_to_bytes number ++ uint_to_bytes i)) node

-- below 64 it comes late, and from 240 on twice
abbrev pub delivery_by : ℕ → Delivery
delivery_by byte = if nat_lt byte 64 then Late else if nat_lt byte 240 then Once else Twice

-- whether an event is a tick
abbrev pub is_tick : Event → Bool
is_tick event = event.kind == 1

-- how the event with this number comes to a node
unfoldable pub delivery_of : ℕ → ℕ → ℕ → Event → Delivery
delivery_of number node i event = if is_tick event then Tick else delivery_by (delivery_byte number node i)

-- how events come, the first of which has this number
unfoldable pub deliveries : ℕ → ℕ → ℕ → List Event → List Delivery
deliveries number node i [] = []
deliveries number node i (event ∷ events) = delivery_of number node i event ∷ deliveries number node (i + 1) events

-- ---- the order

abbrev pub comes_as_tick : Delivery → Bool
comes_as_tick Tick = true
comes_as_tick Once = false
comes_as_tick Twice = false
comes_as_tick Late = false

abbrev pub comes_late : Delivery → Bool
comes_late Tick = false
comes_late Once = false
comes_late Twice = false
comes_late Late = true

-- what comes in the place of an event: the event, and at once again where it comes twice; nothing where it comes late
abbrev pub in_place : ℕ → Delivery → List ℕ
in_place place Tick = place ∷ []
in_place place Once = place ∷ []
in_place place Twice = place ∷ (place ∷ [])
in_place place Late = []

-- the place of the next tick from this place on; where no tick follows the list's end, which is the place behind the last event
unfoldable pub next_tick : List Delivery → ℕ → ℕ
next_tick comings place = place + position_or_len comes_as_tick (drop place comings)

-- whether the event at a place comes late, and behind the tick, or at the end, that is here
unfoldable pub comes_late_here : List Delivery → ℕ → ℕ → Bool
comes_late_here comings here place = option_map_or comes_late (slice_get comings place) false && (next_tick comings place == here)

-- what is delivered here: the event of this place, and then the late ones that come here, in their order
unfoldable pub delivered_here : List Delivery → ℕ → List ℕ
delivered_here comings here = option_map_or (in_place here) (slice_get comings here) [] ++ filter (comes_late_here comings here) (range_with_len 0 (length comings))

-- place by place, the list's end among them
unfoldable pub in_order : List Delivery → List ℕ
in_order comings = flat_map (delivered_here comings) (range_with_len 0 (length comings + 1))

-- the places of the events, counted from 0, in the order in which a node is delivered them. The events' numbers count from 1
unfoldable pub delivered_places : ℕ → ℕ → List Event → List ℕ
delivered_places number node events = in_order (deliveries number node 1 events)

-- the events that a node is delivered
unfoldable pub delivered : ℕ → ℕ → List Event → List Event
delivered number node events = filter_map (slice_get events) (delivered_places number node events)

-- ---- what is true of every such list

-- of so many events each is delivered once or twice, and nothing else is
pub record IsEachOnceOrTwice (many : ℕ) (places : List ℕ) : Type 0 where
  pub once : (place : ℕ) → place < many → 1 ≤ count_by (λ other. other == place) places
  pub twice : (place : ℕ) → place < many → count_by (λ other. other == place) places ≤ 2
  pub within : All (λ place. place < many) places

-- whether the event at a place is a tick
abbrev pub is_tick_at : List Event → ℕ → Bool
is_tick_at events place = option_map_or is_tick (slice_get events place) false

-- the ticks are delivered once each, and in their order
pub record AreTicksInOrder (events : List Event) (places : List ℕ) : Type 0 where
  pub ticks : filter (is_tick_at events) places ≡ filter (is_tick_at events) (range_with_len 0 (length events))
