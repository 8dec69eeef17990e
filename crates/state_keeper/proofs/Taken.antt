-- Each block but the first one was added by a step from its parent's state.
use Rattle.std.proofs.Common.{◌≡◌, ◌∙◌, ℕ, zero, suc, ◌<◌, List, length, map, Option, Some, option_map, slice_get, ap, arith}
use Rattle.std.proofs.lemmas.List.{length-map}
use Rattle.std.proofs.lemmas.Option.{slice_get-map}
use Rattle.bc_words.specs.Outcome.{Outcome}
use Rattle.spec_state.specs.declared.plain.PlainState.{PlainState}
use Rattle.state_keeper.specs.declared.entry.Entry.{Entry}
use Rattle.state_keeper.specs.Chain.{WasStep}
use Rattle.state_keeper.specs.inside.Entries.{plain_of, IsBehind, IsEntry, AreEntries}
use Rattle.state_keeper.proofs.Items.{item_at}

module _ {B : Type 0} (can : PlainState → B → Type 0) (step : PlainState → B → Outcome PlainState) where
  behind_is : (entries : List (Entry B PlainState)) (n : ℕ) (e : Entry B PlainState) → 0 < n → IsEntry can step entries n e → IsBehind can step entries n e
  behind_is entries zero e some is = absurd (omega arith)
  behind_is entries (suc n) e some is = is

  mapped : (entries : List (Entry B PlainState)) (k : ℕ) (e : Entry B PlainState) → slice_get entries k ≡ Some e → slice_get (map plain_of entries) k ≡ Some (plain_of e)
  mapped entries k e there = slice_get-map plain_of entries k ∙ ap (λ (o : Option (Entry B PlainState)). option_map plain_of o) there

  pub was_step : (entries : List (Entry B PlainState)) → AreEntries can step entries → (n : ℕ) → 0 < n → n < length (map plain_of entries) → WasStep can step (map plain_of entries) n
  was_step entries each n some inside =
      let (e, there) = item_at entries n (omega (arith, length-map entries plain_of)) in
      let is = behind_is entries n e some (each n e there) in
      record {
        block = plain_of e;
        there = mapped entries n e there;
        parent = plain_of is.parent;
        behind = mapped entries e.parent is.parent is.there;
        before = is.before;
        can_step = is.can_step;
        done_step = is.done_step;
      }
