-- What is counted, where some messages changed since.
use Rattle.std.specs.Prelude.{◌≡◌, ℕ, zero, suc, ◌+◌, ◌*◌, ◌<◌, ◌≤◌, nat_lt, Bool, false, ◌||◌, ◌&&◌, List, [], length, true, slice_set, None, is_some, if◌then◌else◌}
use Rattle.std.specs.List.{count_by}
use Rattle.block_array.specs.declared.best_descendant.BestDescendant.{BestDescendant}
use Rattle.block_array.specs.declared.tally.Counted.{Counted}
use Rattle.block_array.specs.PlainArray.{PlainArray, message_of, is_listed}
use Rattle.block_array.specs.inside.Counts.{Counts, nothing, counted_of}
use Rattle.block_array.specs.inside.Held.{due}
use Rattle.block_array.specs.inside.BestDescendants.{IsCounted, IsMade}

-- how many are marked as changed
unfoldable pub count_changed : List Counted → ℕ
count_changed validators = count_by (λ c. c.changed) validators

-- Each validator with a message has a place, and so have the silenced ones. The marked validators are the changed ones. Of the
-- others, what is due is counted, unless balances were set; and nothing of who has no message
pub record IsNoted (array : PlainArray) (counts : Counts) : Type 0 where
  pub nodes : counts.nodes ≡ length array.nodes
  pub covers : length array.latest_messages ≤ length counts.validators
  pub listed : (v : ℕ) → (counted_of counts.validators v).changed ≡ is_listed array.changed_validators v
  pub many : count_changed counts.validators ≡ length array.changed_validators
  pub idle : (v : ℕ) → message_of array v ≡ None → (counted_of counts.validators v).changed ≡ false → counted_of counts.validators v ≡ nothing
  pub current : array.balances_set ≡ false → (v : ℕ) → (counted_of counts.validators v).changed ≡ false → counted_of counts.validators v ≡ due array v

-- what is left as it was where nothing changed
pub record IsUnchanged (array : PlainArray) (counts : Counts) (bests : List BestDescendant) : Type 0 where
  pub counted : IsCounted array counts
  pub made : IsMade array bests
  pub changed : array.changed_validators ≡ []
  pub balances : array.balances_set ≡ false

-- the whole array, where there is room for so many bests and for so many changed validators
pub record IsArray (array : PlainArray) (counts : Counts) (bests : List BestDescendant) (best_room changed_room : ℕ) : Type 0 where
  pub noted : IsNoted array counts
  pub length_is : length bests ≡ length array.nodes
  pub unchanged : array.anything_changed ≡ false → IsUnchanged array counts bests
  pub tally_nodes : length array.nodes + array.spare_nodes ≤ counts.node_room
  pub best_nodes : length array.nodes + array.spare_nodes ≤ best_room
  pub tally_validators : array.spare_validators ≤ counts.validator_room
  pub marks : length counts.validators ≤ changed_room

-- the deltas of some validators are made
unfoldable pub AreMade : PlainArray → List Counted → List Counted → List ℕ → Type 0
AreMade array before after validators = (v : ℕ) → counted_of after v ≡ (if is_listed validators v then due array v else counted_of before v)

-- whether a validator has a delta: it changed, or balances were set and it has a message
unfoldable pub has_delta : PlainArray → List Counted → ℕ → Bool
has_delta array validators v = (counted_of validators v).changed || (array.balances_set && is_some (message_of array v))

-- how many of the validators below one have a delta
unfoldable pub deltas_below : PlainArray → List Counted → ℕ → ℕ
deltas_below array validators zero = 0
deltas_below array validators (suc v) = deltas_below array validators v + (if has_delta array validators v then 1 else 0)

-- whether all validators are gone through in their order: where balances were set, or for each changed message there are fewer
-- than thirty-two
unfoldable pub goes_in_order : PlainArray → List Counted → Bool
goes_in_order array validators = array.balances_set || nat_lt (length validators) (32 * length array.changed_validators)

-- those of all validators below one are
unfoldable pub AreDue : PlainArray → List Counted → ℕ → Type 0
AreDue array after count = (v : ℕ) → v < count → counted_of after v ≡ due array v

-- the validators where one is marked as changed
unfoldable pub marked : List Counted → ℕ → List Counted
marked validators v = if (counted_of validators v).changed then validators else slice_set validators v (record (counted_of validators v) { changed = true })
