use Rattle.std.proofs.Common.{◌∙◌, sym, ap, subst, map, length, arith}
use Rattle.std.specs.List.{All}
use Rattle.spec_forensics.specs.CarriedVotes.{WasProcessed}
use Rattle.forensics.specs.inside.BlockVotes.{attesters_in}
use Rattle.forensics.specs.inside.Carriers.{attested_in}
use Rattle.forensics.proofs.Once.{all_once}
use Rattle.forensics.proofs.Published.{lists_are, as_many}
use Rattle.forensics.proofs.Books.{processed, are_added, book_grows, seen_grown, first_seen, second_seen}
use Rattle.forensics.proofs.vote_book.VoteBook.add.Goals as goal

pub keep-requires : goal.keep-requires
keep-requires c =
    subst (All (WasProcessed c.args.state.now)) (sym c.as_slice-attestations.ensures.same)
    (processed _ _ _ _ c.requires.step c.preset-preset.ensures.preset (omega (arith, c.slot-slot.ensures)))

pub reserve-requires : goal.reserve-requires
reserve-requires c = record {
  once = all_once c.args.state.now c.as_slice-attestations.result.now _ c.preset-preset.ensures.preset
      (subst (All (WasProcessed c.args.state.now)) (sym c.as_slice-attestations.ensures.same)
      (processed _ _ _ _ c.requires.step c.preset-preset.ensures.preset (omega (arith, c.slot-slot.ensures))))
      (ap (λ ls. map (λ l. l.items) ls) c.deref-2.ensures.value ∙ lists_are c.args.state.now c.as_slice-attestations.result.now _ _ _ c.deref.ensures.value c.in_ok-kept.ensures c.in_ok-lists.ensures);
}

pub add_to-requires-clause-attestations : goal.add_to-requires-clause-attestations
add_to-requires-clause-attestations c = c.in_ok-kept.ensures ∙ ap (map (attested_in c.args.state.now)) c.as_slice-attestations.ensures.same

pub add_votes-requires-clause-lists : goal.add_votes-requires-clause-lists
add_votes-requires-clause-lists c =
    ap length c.deref-3.ensures.value
    ∙ as_many (λ l. l.items) (attesters_in c.args.state.now) _ c.as_slice-attestations.result.now (lists_are c.args.state.now c.as_slice-attestations.result.now _ _ _ c.deref.ensures.value c.in_ok-kept.ensures c.in_ok-lists.ensures)

pub invariant_of-self-2 : goal.invariant_of-self-2
invariant_of-self-2 c =
    book_grows _ c.self.inside.genesis c.args.self.now c.self.inside.first c.self.inside.second _ _ c.self.inside.votes _ c.args.which _ (map (λ x. x.items) c.in_ok-lists.lists.items) c.self.view_is c.self.invariant c.requires.which c.requires.order c.requires.step c.requires.clear
    (are_added c.args.which _ c.as_slice-attestations.result.now _ _ c.self.inside.votes c.reserve.new.self _ c.as_slice-attestations.ensures.same (ap (λ ls. map (λ l. l.items) ls) c.deref-3.ensures.value) (lists_are c.args.state.now c.as_slice-attestations.result.now _ _ _ c.deref.ensures.value c.in_ok-kept.ensures c.in_ok-lists.ensures) c.reserve.ensures.holds c.reserve.ensures.count c.add_votes.ensures.holds c.add_votes.ensures.count)
    (first_seen c.args.which c.args.event c.args.root c.args.block.now c.args.state.now c.entered.result.now c.args.watch.now.entered c.self.inside.first _ c.entered.ensures c.in_ok-add_to.ensures.first)
    (second_seen c.args.which c.args.event c.args.root c.args.block.now c.args.state.now c.entered.result.now c.args.watch.now.entered c.self.inside.second _ c.entered.ensures c.in_ok-add_to.ensures.second)

pub returns : goal.returns
returns c = seen_grown _ c.self.inside.genesis c.args.self.now c.self.inside.first c.self.inside.second _ _ c.args.which _ c.self.view_is c.requires.which
    (first_seen c.args.which c.args.event c.args.root c.args.block.now c.args.state.now c.entered.result.now c.args.watch.now.entered c.self.inside.first _ c.entered.ensures c.in_ok-add_to.ensures.first)
    (second_seen c.args.which c.args.event c.args.root c.args.block.now c.args.state.now c.entered.result.now c.args.watch.now.entered c.self.inside.second _ c.entered.ensures c.in_ok-add_to.ensures.second)
