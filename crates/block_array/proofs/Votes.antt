-- What a vote leaves, and that it names at most one validator more as changed.
use Rattle.std.proofs.Common.{◌≡◌, ℕ, ◌+◌, ◌≤◌, Bool, true, false, cond, [], ◌∷◌, ◌++◌, length, refl, ap, arith, length-append}
use Rattle.block_array.specs.declared.node.Message.{Message}
use Rattle.block_array.specs.PlainArray.{PlainArray, is_listed}
use Rattle.block_array.specs.UpdateLatestMessages.{is_news, with_changed, voted, update_latest_message}

module _ (array : PlainArray) (validator : ℕ) (message : Message) where
  listed_more : (b : Bool) → length (cond b array.changed_validators (array.changed_validators ++ validator ∷ [])) ≤ length array.changed_validators + 1
  listed_more true = omega arith
  listed_more false = omega (arith, length-append array.changed_validators (validator ∷ []))

  pub vote_changes : length (update_latest_message array validator message).changed_validators ≤ length array.changed_validators + 1
  unfolding update_latest_message voted with_changed
  vote_changes = by (is_news array validator message.epoch)
    where
      by : (b : Bool) → length (cond b (voted array validator message) array).changed_validators ≤ length array.changed_validators + 1
      by true = listed_more (is_listed array.changed_validators validator)
      by false = omega arith

  pub vote_nodes : (update_latest_message array validator message).nodes ≡ array.nodes
  unfolding update_latest_message voted
  vote_nodes = by (is_news array validator message.epoch)
    where
      by : (b : Bool) → (cond b (voted array validator message) array).nodes ≡ array.nodes
      by true = refl
      by false = refl

  pub vote_balances : (update_latest_message array validator message).balances_set ≡ array.balances_set
  unfolding update_latest_message voted
  vote_balances = by (is_news array validator message.epoch)
    where
      by : (b : Bool) → (cond b (voted array validator message) array).balances_set ≡ array.balances_set
      by true = refl
      by false = refl

  pub vote_taken : is_news array validator message.epoch ≡ true → update_latest_message array validator message ≡ voted array validator message
  unfolding update_latest_message
  vote_taken news = ap (λ b. cond b (voted array validator message) array) news

  pub vote_passed : is_news array validator message.epoch ≡ false → update_latest_message array validator message ≡ array
  unfolding update_latest_message
  vote_passed old = ap (λ b. cond b (voted array validator message) array) old

pub ruleset voting = (vote_changes, vote_nodes, vote_balances)
