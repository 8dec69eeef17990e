use Rattle.std.proofs.Common.{◌≡◌, ◌∙◌, ℕ, ◌<◌, ◌^◌, refl, sym, subst}
use Rattle.block_array.specs.declared.facts.Facts.{Facts}
use Rattle.spec_fork_choice.specs.Slots.{start_slot_of}
use Rattle.spec_fork_choice.specs.Store.{KeptBlock}
use Rattle.fork_store.specs.inside.Accepted.{settled}
use Rattle.fork_store.specs.inside.Following.{AreGiven}
use Rattle.fork_store.specs.Stores.{IsLate, first_epoch}
use Rattle.fork_store.proofs.Keepers.{keeper_same, keeper_settled}
use Rattle.fork_store.proofs.AcceptedBlocks.{settled_is_accepted, accepted_whole, again_whole, mid_few, mid_given, mid_kept, mid_known, mid_late, mid_low, mid_ready}
use Rattle.fork_store.proofs.Numbers.{justified_is_low}
use Rattle.fork_store.proofs.Stays.{keeper_behind, keeper_unchanged, stop_leaves}
use Rattle.fork_store.proofs.on_block.accept.Goals as goal

pub returns-clause-exact : goal.returns-clause-exact
returns-clause-exact c =
    let kept : KeptBlock = record { root = c.args.root; block = c.args.block.now.message; state = c.args.state } in
    c.settle_whole.ensures.exact ∙ rw (c.requires.facts, c.in_ok-keep_block.ensures.exact) (settled_is_accepted c.args.store.now kept)

pub returns-clause-balances_set_stays : goal.returns-clause-balances_set_stays
returns-clause-balances_set_stays c = λ is. c.settle_whole.ensures.balances_set_stays (is ∙ sym c.in_ok-keep_block.ensures.stays) ∙ c.in_ok-keep_block.ensures.balances_set_stays

pub settle_whole-requires-clause-few : goal.settle_whole-requires-clause-few
settle_whole-requires-clause-few c = mid_few c.args.store.now c.keep_block.new.store c.args.array.now c.args.ready.now c.args.root c.args.block.now.message c.args.state c.is_sound.ensures.store c.requires.parts.whole c.requires.linked c.in_ok-keep_block.ensures.exact c.requires.few

pub settle_whole-requires-clause-ready : goal.settle_whole-requires-clause-ready
settle_whole-requires-clause-ready c = mid_ready c.args.store.now c.keep_block.new.store c.args.array.now c.args.ready.now c.args.root c.args.block.now.message c.args.state c.is_sound.ensures.store c.requires.parts.whole c.requires.linked c.in_ok-keep_block.ensures.exact

pub settle_whole-requires-clause-kept : goal.settle_whole-requires-clause-kept
settle_whole-requires-clause-kept c = mid_kept c.args.store.now c.keep_block.new.store c.args.array.now c.args.ready.now c.args.root c.args.block.now.message c.args.state c.is_sound.ensures.store c.requires.parts.whole c.requires.linked c.in_ok-keep_block.ensures.exact

pub settle_whole-requires-clause-justified : goal.settle_whole-requires-clause-justified
settle_whole-requires-clause-justified c = rw c.requires.facts (mid_known c.args.store.now c.keep_block.new.store c.args.array.now c.args.ready.now c.args.root c.args.block.now.message c.args.state c.is_sound.ensures.store c.requires.parts.whole c.requires.linked c.in_ok-keep_block.ensures.exact)

pub settle_whole-requires-clause-given : goal.settle_whole-requires-clause-given
settle_whole-requires-clause-given c =
    subst (λ (f : Facts). AreGiven c.keep_block.new.store c.in_ok-given.given.justified c.in_ok-given.given.best_justified f.justified f.finalized) (sym c.requires.facts)
    (mid_given c.args.store.now c.keep_block.new.store c.args.array.now c.args.ready.now c.args.root c.args.block.now.message c.args.state c.is_sound.ensures.store c.requires.parts.whole c.requires.linked c.in_ok-keep_block.ensures.exact _ _
    (subst (λ (f : Facts). AreGiven c.args.store.now c.in_ok-given.given.justified c.in_ok-given.given.best_justified f.justified f.finalized) c.requires.facts c.in_ok-given.ensures.given))

pub keep_block-requires-clause-array : goal.keep_block-requires-clause-array
keep_block-requires-clause-array c = c.requires.parts.whole.array_of

pub keep_block-requires-clause-keeper : goal.keep_block-requires-clause-keeper
keep_block-requires-clause-keeper c = keeper_same c.args.store.now c.args.keeper.now c.prepare.new.keeper c.requires.parts.keeper_of c.in_ok-given.ensures.same

low_slot : (state slot : ℕ) → state ≡ slot → slot < 2 ^ 64 → state < 2 ^ 64
low_slot state slot is low = subst (λ n. n < 2 ^ 64) (sym is) low

pub prepare-requires-clause-low : goal.prepare-requires-clause-low
prepare-requires-clause-low c =
    subst (λ (f : Facts). start_slot_of c.args.store.now f.justified < 2 ^ 64) (sym c.requires.facts)
    (justified_is_low c.args.state c.args.store.now.config.preset c.requires.kept.sound c.requires.preset (low_slot _ _ c.requires.kept.slot c.requires.kept.low))

pub settle_whole-requires-clause-low : goal.settle_whole-requires-clause-low
settle_whole-requires-clause-low c =
    subst (λ (f : Facts). start_slot_of c.keep_block.new.store f.justified < 2 ^ 64) (sym c.requires.facts)
    (mid_low c.args.store.now c.keep_block.new.store c.args.array.now c.args.ready.now c.args.root c.args.block.now.message c.args.state c.is_sound.ensures.store c.requires.parts.whole c.requires.linked c.in_ok-keep_block.ensures.exact
    (justified_is_low c.args.state c.args.store.now.config.preset c.requires.kept.sound c.requires.preset (low_slot _ _ c.requires.kept.slot c.requires.kept.low)))

pub settle_whole-requires-clause-late : goal.settle_whole-requires-clause-late
settle_whole-requires-clause-late c =
    subst (λ (f : Facts). first_epoch c.keep_block.new.store.config.preset c.keep_block.new.store.blocks < f.finalized.epoch → IsLate c.keep_block.new.store f.justified) (sym c.requires.facts)
    (mid_late c.args.store.now c.keep_block.new.store c.args.array.now c.args.ready.now c.args.root c.args.block.now.message c.args.state c.is_sound.ensures.store c.requires.parts.whole c.requires.linked c.in_ok-keep_block.ensures.exact)

pub returns-in_err-keep_block-clause-balances_set_stays : goal.returns-in_err-keep_block-clause-balances_set_stays
returns-in_err-keep_block-clause-balances_set_stays c = λ _. c.in_err-keep_block.ensures.balances_set_stays

pub returns-in_err-given-clause-array_stays : goal.returns-in_err-given-clause-array_stays
returns-in_err-given-clause-array_stays c = stop_leaves _ refl

pub returns-in_err-given-clause-keeper_stays : goal.returns-in_err-given-clause-keeper_stays
returns-in_err-given-clause-keeper_stays c = stop_leaves _ (keeper_unchanged c.args.keeper.now c.prepare.new.keeper c.in_err-given.ensures.same)

pub returns-in_err-keep_block-clause-array_stays : goal.returns-in_err-keep_block-clause-array_stays
returns-in_err-keep_block-clause-array_stays c = stop_leaves _ c.in_err-keep_block.ensures.array_stays

pub returns-in_err-keep_block-clause-keeper_stays : goal.returns-in_err-keep_block-clause-keeper_stays
returns-in_err-keep_block-clause-keeper_stays c =
    stop_leaves _ (keeper_behind c.args.keeper.now c.prepare.new.keeper c.keep_block.new.keeper c.in_ok-given.ensures.same c.in_err-keep_block.ensures.keeper_stays)

pub returns-clause-parts : goal.returns-clause-parts
returns-clause-parts c = record {
  whole = accepted_whole c.args.store.now c.keep_block.new.store c.args.array.now c.args.ready.now c.args.root c.args.block.now.message c.args.state c.is_sound.ensures.store c.requires.parts.whole c.requires.linked
      c.in_ok-keep_block.ensures.exact c.settle_whole.new.store
      (subst (λ (f : Facts). c.settle_whole.new.store ≡ settled c.keep_block.new.store c.args.block.now.message.slot c.args.root f.justified f.finalized) c.requires.facts c.settle_whole.ensures.exact)
      c.settle_whole.new.array c.settle_whole.new.ready
      (mid_few c.args.store.now c.keep_block.new.store c.args.array.now c.args.ready.now c.args.root c.args.block.now.message c.args.state c.is_sound.ensures.store c.requires.parts.whole c.requires.linked c.in_ok-keep_block.ensures.exact c.requires.few)
      c.settle_whole.ensures.array c.settle_whole.ensures.ready;
  keeper_of = keeper_settled c.keep_block.new.store c.settle_whole.new.store c.keep_block.new.keeper c.args.block.now.message.slot c.args.root c.args.facts.justified c.args.facts.finalized
      c.in_ok-keep_block.ensures.keeper c.settle_whole.ensures.exact;
}

pub returns-in_err-given-clause-parts : goal.returns-in_err-given-clause-parts
returns-in_err-given-clause-parts c = record {
  whole = c.requires.parts.whole;
  keeper_of = keeper_same c.args.store.now c.args.keeper.now c.prepare.new.keeper c.requires.parts.keeper_of c.in_err-given.ensures.same;
}

pub returns-in_err-keep_block-clause-parts : goal.returns-in_err-keep_block-clause-parts
returns-in_err-keep_block-clause-parts c = record {
  whole = again_whole c.args.store.now c.keep_block.new.store c.args.array.now c.keep_block.new.array c.args.ready.now c.requires.parts.whole c.in_err-keep_block.ensures.exact c.in_err-keep_block.ensures.array;
  keeper_of = c.in_err-keep_block.ensures.keeper;
}
