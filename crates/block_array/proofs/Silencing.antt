-- One more silenced validator.
use Rattle.std.proofs.Common.{◌≡◌, ℕ, ◌+◌, ◌≤◌, Bool, true, false, cond, nat_lt, ◌||◌, eqb, List, [], ◌∷◌, length, max, Some, None, ◌<◌, refl, sym, ap, arith}
use Rattle.std.specs.List.{list_any}
use Rattle.std.specs.Option.{option_map_or}
use Rattle.std.proofs.lemmas.Bool.{ne_eqb}
use Rattle.bc_words.specs.Indices.{with_index}
use Rattle.block_array.specs.declared.node.Message.{Message}
use Rattle.block_array.specs.declared.tally.Counted.{Counted}
use Rattle.block_array.specs.PlainArray.{PlainArray, message_of, vote_of, balance_of, is_listed}
use Rattle.block_array.specs.Silence.{silenced, silence}
use Rattle.block_array.specs.inside.Counts.{Counts, nothing, counted_of}
use Rattle.block_array.specs.inside.Held.{due, IsPlain}
use Rattle.block_array.specs.inside.Noted.{count_changed, marked, IsNoted}
use Rattle.block_array.proofs.Noting.{noted_change}

-- who else is in a set
pub listed_other : (indices : List ℕ) (v k : ℕ) → (k ≡ v → ⊥) → is_listed (with_index indices v) k ≡ is_listed indices k
unfolding is_listed with_index
listed_other [] v k n = ap (λ b. b || false) (ne_eqb v k (λ e. n (sym e)))
listed_other (x ∷ indices) v k n = by (nat_lt v x) (eqb x v) (listed_other indices v k n)
  where
    by : (before same : Bool) → list_any (λ other. eqb other k) (with_index indices v) ≡ list_any (λ other. eqb other k) indices → list_any (λ other. eqb other k) (cond before (v ∷ x ∷ indices) (cond same (x ∷ indices) (x ∷ with_index indices v))) ≡ list_any (λ other. eqb other k) (x ∷ indices)
    by true same again = ap (λ b. b || list_any (λ other. eqb other k) (x ∷ indices)) (ne_eqb v k (λ e. n (sym e)))
    by false true again = refl
    by false false again = ap (λ b. eqb x k || b) again

module _ (array : PlainArray) (counts : Counts) (noted : IsNoted array counts) (v : ℕ) where
  message_same : (k : ℕ) → message_of (silenced array v) k ≡ message_of array k
  unfolding message_of silenced
  message_same k = refl

  due_other : (k : ℕ) → (k ≡ v → ⊥) → due (silenced array v) k ≡ due array k
  unfolding due balance_of vote_of message_of silenced
  due_other k n = ap (λ b. option_map_or (λ (m : Message). record { node = m.node; balance = balance_of array k; changed = false }) (cond b None (message_of array k)) nothing) (listed_other array.silenced_validators v k n)

  places : length (silenced array v).latest_messages ≤ max (length array.latest_messages) (v + 1)
  unfolding silenced
  places = omega arith

  pub noted_silence : (after : Counts) (padded : List Counted) → ((k : ℕ) → counted_of padded k ≡ counted_of counts.validators k) → count_changed padded ≡ count_changed counts.validators → length padded ≡ max (length counts.validators) (v + 1) → after.nodes ≡ counts.nodes → after.validators ≡ marked padded v → IsNoted (silenced array v) after
  unfolding silenced
  noted_silence after padded same many len nodes vs = noted_change array (silenced array v) counts noted v refl refl refl places (λ k n. message_same k) due_other after padded same many len nodes vs

pub ruleset silencing = (noted_silence)

-- ---- what the call leaves

module _ (array : PlainArray) (validator : ℕ) where
  pub silence_taken : is_listed array.silenced_validators validator ≡ false → silence array validator ≡ silenced array validator
  unfolding silence
  silence_taken isnt = ap (λ b. cond b array (silenced array validator)) isnt

  pub silence_passed : is_listed array.silenced_validators validator ≡ true → silence array validator ≡ array
  unfolding silence
  silence_passed is = ap (λ b. cond b array (silenced array validator)) is

-- a message by which a validator weighs is for a node
pub vote_below : (array : PlainArray) (v : ℕ) (message : Message) → IsPlain array → vote_of array v ≡ Some message → message.node < length array.nodes
unfolding vote_of message_of
vote_below array v message plain is = by (is_listed array.silenced_validators v) is
  where
    by : (b : Bool) → cond b None (message_of array v) ≡ Some message → message.node < length array.nodes
    by true e = absurd cc
    by false e = plain.messages v message e
