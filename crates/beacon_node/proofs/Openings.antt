-- How two stores and a book open at genesis.
use Rattle.std.proofs.Common.{◌≡◌, ◌∙◌, ℕ, zero, suc, ◌≤◌, ◌<◌, ◌^◌, [], length, Option, Ok, refl, sym, ap, subst, arith}
use Rattle.bc_preset.specs.declared.configuration.ConfigValues.{ConfigValues}
use Rattle.bc_words.specs.Events.{StoreStops, accepted}
use Rattle.bc_words.specs.declared.store_stop.ClashKind.{ClashKind}
use Rattle.bc_words.specs.declared.store_stop.StoreStop.{StoreStop}
use Rattle.bc_words.specs.declared.store_stop.StoreStop.TheVariants as stores
use Rattle.spec_state.specs.declared.plain.PlainState.{PlainState}
use Rattle.spec_fork_choice.specs.Store.{Store}
use Rattle.spec_fork_choice.specs.GetForkchoiceStore.{genesis_store, get_forkchoice_store}
use Rattle.spec_fork_choice.specs.OnEvent.{genesis_clash, open_store}
use Rattle.safety_law.specs.Follows.{Follows}
use Rattle.safety_law.proofs.Followed.{begins_followed}
use Rattle.spec_replay.specs.Drill.{two_lines}
use Rattle.spec_replay.specs.Forensic.{judge}
use Rattle.spec_replay.specs.declared.report.Report.{Report}
use Rattle.forensics.specs.Books.{PlainBook, begun, history_of}
use Rattle.beacon_node.specs.declared.follow.Side.{Side}
use Rattle.beacon_node.specs.declared.follow.Side.TheVariants.{First, Second}
use Rattle.beacon_node.specs.declared.histories.Histories.{Histories}
use Rattle.one_chain.specs.declared.status.Status.TheVariants as statuses
use Rattle.beacon_node.specs.inside.Following.{IsBeside, IsFollowing, SameBeside, followed_by, others_of, which_of}
use Rattle.one_chain.specs.inside.GenesisAnswers.{no_store}
use Rattle.beacon_node.specs.inside.Histories.{AreOpened, IsOpened, OpeningEnds}
use Rattle.one_chain.proofs.Readers.{clash_of_opening, opened_without}

-- memory ran out
pub no_memory_opens : (clash : Option ClashKind) → OpeningEnds statuses.NoMemory clash
no_memory_opens clash = record { clashes = λ on. absurd cc; inside = record { done = λ is. cc; words = λ is. cc; read = λ is. cc; write = λ is. cc } }

module _ (config : ConfigValues) (genesis : PlainState) where
  pub opened_store : (store : Store) → open_store config genesis ≡ accepted store → IsOpened config genesis store
  unfolding open_store
  opened_store store is =
      let opened = opened_without (genesis_clash genesis) (genesis_store config genesis) store is in
      record { none = opened.0; is = opened.1 }

  pub opening_ends : (stop : StoreStop) → StoreStops stop (open_store config genesis) → OpeningEnds (no_store stop) (genesis_clash genesis)
  unfolding open_store
  opening_ends (stores.Clash kind) is = record {
    clashes = λ on. (kind, clash_of_opening (genesis_clash genesis) (genesis_store config genesis) kind is, refl);
    inside = record { done = λ is. cc; words = λ is. cc; read = λ is. cc; write = λ is. cc };
  }
  opening_ends (stores.Refused why) is = no_memory_opens (genesis_clash genesis)
  opening_ends (stores.Limit bound) is = no_memory_opens (genesis_clash genesis)
  opening_ends stores.NoMemory is = no_memory_opens (genesis_clash genesis)

-- what opened, in words of its own parts
pub opened_again : (config : ConfigValues) (genesis : PlainState) (histories : Histories) → AreOpened config genesis histories → AreOpened histories.book.config histories.genesis histories
unfolding begun
opened_again config genesis histories are =
    let same_config : histories.book.config ≡ config = ap (λ (book : PlainBook). book.config) are.book in
    subst (λ (c : ConfigValues). AreOpened c histories.genesis histories) (sym same_config) (subst (λ (g : PlainState). AreOpened config g histories) (sym are.genesis_is) are)

-- a store that opened keeps one block
pub one_kept : (config : ConfigValues) (genesis : PlainState) (store : Store) → store ≡ genesis_store config genesis → length store.blocks ≤ 1
unfolding genesis_store get_forkchoice_store
one_kept config genesis store is = rw is (omega arith)

module _ (config : ConfigValues) (genesis : PlainState) (histories : Histories) (are : AreOpened config genesis histories) where
  pub nothing_in : (which : ℕ) → which < 2 → history_of histories.book which ≡ []
  unfolding history_of begun
  nothing_in which less = nothing which less (ap (λ (book : PlainBook). history_of book which) are.book)
    where
      nothing : (which : ℕ) → which < 2 → history_of histories.book which ≡ history_of (begun config genesis) which → history_of histories.book which ≡ []
      nothing zero less is = is
      nothing (suc zero) less is = is
      nothing (suc (suc n)) less is = absurd (omega (arith, less))

  -- the first record is followed from the beginning
  pub first_begins : IsFollowing First histories.genesis histories.first.plain histories.book
  unfolding begun history_of
  first_begins =
      let follows : Follows config genesis [] histories.first.plain = rw are.first (begins_followed config genesis are.begins) in
      record { genesis_is = ap (λ (book : PlainBook). book.genesis) are.book ∙ sym are.genesis_is; follows = rw (are.book, are.genesis_is) follows; beside = ap (λ (book : PlainBook). book.second) are.book }

  -- and so is the second one
  pub second_begins : Follows histories.book.config histories.book.genesis [] histories.second.plain
  unfolding begun
  second_begins = rw (are.book, are.second) (begins_followed config genesis are.begins)

-- the second record is followed behind the first one, from the beginning
pub second_follows : (side : Side) (genesis : PlainState) (store : Store) (book : PlainBook) → which_of side ≡ 1 → book.genesis ≡ genesis → history_of book 1 ≡ [] → Follows book.config book.genesis [] store → IsBeside side book → IsFollowing side genesis store book
second_follows side genesis store book second is none follows beside = record { genesis_is = is; follows = rw (second, none, ← is) follows; beside = beside }

-- once the first record was followed, the book is as the second one begins with
pub then_second : (genesis : PlainState) (store second : Store) (old new : PlainBook) → SameBeside First old new → history_of old 1 ≡ [] → Follows old.config old.genesis [] second
    → (history_of new 1 ≡ []) × Follows new.config new.genesis [] second
unfolding history_of
then_second genesis store second old new same none follows = (same.other ∙ none, rw (same.config, same.genesis) follows)

-- the first store behind which the second record is followed
pub beside_first : (side : Side) (first : Store) (book : PlainBook) → which_of side ≡ 1 → others_of side ≡ first.blocks → Follows book.config book.genesis (history_of book 0) first → length first.blocks < 2 ^ 32 → IsBeside side book
unfolding history_of
beside_first First first book second same follows few = absurd (omega (arith, second))
beside_first (Second other) first book second same follows few = (same ∙ follows.blocks, rw same few)

-- the first history stays while the second one is followed
module _ (side : Side) (old new : PlainBook) (second : which_of side ≡ 1) (same : SameBeside side old new) where
  first_stays_by : (side : Side) → which_of side ≡ 1 → SameBeside side old new → history_of new 0 ≡ history_of old 0
  unfolding history_of
  first_stays_by First second same = absurd (omega (arith, second))
  first_stays_by (Second other) second same = same.other

  first_stays : history_of new 0 ≡ history_of old 0
  first_stays = first_stays_by side second same

  pub still_first : (first : Store) → Follows old.config old.genesis (history_of old 0) first → Follows new.config new.genesis (history_of new 0) first
  unfolding history_of
  still_first first follows = rw (same.config, same.genesis, first_stays) follows

  -- what is found is in words of the book of before
  pub two_of : (genesis : PlainState) (first last : Store) → old.genesis ≡ genesis
      → two_lines new.genesis (record { store = first; history = history_of new 0 }) (record { store = last; history = history_of new 1 }) ≡ two_lines genesis (record { store = first; history = history_of old 0 }) (followed_by side last new)
  unfolding two_lines history_of
  two_of genesis first last is = rw (same.genesis, is, first_stays, second) refl

  pub judge_of : (report : Report) (genesis : PlainState) (first last : Store) → old.genesis ≡ genesis
      → judge report new.genesis (record { store = first; history = history_of new 0 }) (Ok (record { store = last; history = history_of new 1 })) ≡ judge report genesis (record { store = first; history = history_of old 0 }) (Ok (followed_by side last new))
  unfolding judge history_of
  judge_of report genesis first last is = rw (same.genesis, is, first_stays, second) refl
