-- The head of a store is the root at the place of its array's head.
use Rattle.std.proofs.Common.{◌≡◌, ◌∙◌, ◌<◌, ℕ, zero, suc, List, [], ◌∷◌, length, get_or, Option, Some, slice_get, sym, ap, subst, arith}
use Rattle.std.specs.Option.{option_map_or}
use Rattle.block_array.specs.PlainArray.{PlainArray}
use Rattle.block_array.specs.Calls.{made}
use Rattle.block_array.specs.GetHead as heads
use Rattle.spec_fork_choice.specs.Store.{KeptBlock, Store}
use Rattle.spec_fork_choice.specs.GetHead.{get_head}
use Rattle.fork_store.specs.Roots.{roots_of}
use Rattle.fork_store.specs.Stores.{IsStore}
use Rattle.fork_store.specs.Arrays.{Balances, node_number, IsArrayOf}
use Rattle.fork_store.specs.inside.Wholes.{IsWhole}
use Rattle.fork_store.proofs.ArraysPlaces.{at_number, number_inside}
use Rattle.fork_store.proofs.ArraysSteps.{keeps_made}
use Rattle.fork_store.proofs.ArraysHead.{head_number}
use Rattle.fork_store.proofs.Finds.{length_roots}
use Rattle.fork_store.proofs.Items.{no_place, read_some}

roots_at : (blocks : List KeptBlock) (n : ℕ) (kept : KeptBlock) → slice_get blocks n ≡ Some kept → get_or (roots_of blocks) n [] ≡ kept.root
roots_at [] n kept at = absurd cc
roots_at (b ∷ blocks) zero kept at = ap (λ (o : Option KeptBlock). option_map_or (λ k. k.root) o []) at
roots_at (b ∷ blocks) (suc n) kept at = roots_at blocks n kept at

-- the root at the place of a block's number
pub place_fits : (blocks : List KeptBlock) (root : List ℕ) (n : ℕ) → node_number blocks root ≡ Some n → (roots : List (List ℕ)) → roots ≡ roots_of blocks → n < length roots
place_fits blocks root n numbered roots same = let inside = number_inside blocks root n numbered in let many = ap length same in omega (arith, inside, many, length_roots blocks)

pub root_in_place : (blocks : List KeptBlock) (root : List ℕ) (n : ℕ) → node_number blocks root ≡ Some n → (roots : List (List ℕ)) → roots ≡ roots_of blocks → get_or roots n [] ≡ root
root_in_place blocks root n numbered roots same =
    let it = at_number blocks root n numbered in
    ap (λ (r : List (List ℕ)). get_or r n []) same ∙ roots_at blocks n it.kept it.at ∙ it.named

module _ (store : Store) (a told : PlainArray) (head : ℕ) (sound : IsStore store) (of_store : IsArrayOf store a) (is : told ≡ made a) (at : head ≡ heads.get_head told) where
  made_array : IsArrayOf store told
  made_array = subst (IsArrayOf store) (sym is) (keeps_made store a of_store)

  numbered : node_number store.blocks (get_head store) ≡ Some head
  numbered = head_number store told made_array sound.tree sound.presets ∙ ap Some (sym at)

  pub head_fits : (roots : List (List ℕ)) → roots ≡ roots_of store.blocks → head < length roots
  head_fits roots same = place_fits store.blocks (get_head store) head numbered roots same

  pub head_is : (roots : List (List ℕ)) → roots ≡ roots_of store.blocks → get_or roots head [] ≡ get_head store
  head_is roots same = root_in_place store.blocks (get_head store) head numbered roots same

pub made_whole : (store : Store) (a told : PlainArray) (ready : Option Balances) → IsWhole store a ready → told ≡ made a → IsWhole store told ready
made_whole store a told ready whole is = record { array_of = subst (IsArrayOf store) (sym is) (keeps_made store a whole.array_of); chained = whole.chained; few = whole.few; ready_is = whole.ready_is }

pub ruleset reading = (read_some, no_place)

pub ruleset heading = (head_fits, head_is)
