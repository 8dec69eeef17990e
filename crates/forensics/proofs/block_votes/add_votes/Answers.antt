use Rattle.std.proofs.Common.{◌≡◌, ◌∙◌, ◌++◌, ◌∷◌, [], ℕ, List, length, map, get_or, refl, sym, ap, subst, arith}
use Rattle.std.proofs.lemmas.List.{get_or-map, length-map, take_all}
use Rattle.forensics.specs.Carried.{Carried, Holds, HasRoomFor}
use Rattle.forensics.proofs.BlockVotes.{first_room, other_room, held_more, how_many}
use Rattle.forensics.proofs.block_votes.add_votes.Goals as goal

pub add-requires : goal.add-requires
add-requires c =
    let few : length (map (λ x. x.items) c.args.lists.now) ≡ length c.args.lists.now = length-map c.args.lists.now (λ x. x.items) in
    let here : get_or (map (λ x. x.items) c.args.lists.now) c.loop-i.i [] ≡ c.deref.result.now = get_or-map (λ x. x.items) c.args.lists.now c.loop-i.i c.index-lists-i.result [] (omega arith) ∙ ap (λ x. x.items) (sym c.index-lists-i.is) ∙ sym c.deref.ensures.value in
    record { room = subst (λ (l : List ℕ). HasRoomFor c.loop-i.votes (l ∷ [])) here (first_room c.loop-i.votes (map (λ x. x.items) c.args.lists.now) c.loop-i.i [] (omega arith) c.loop-i.invariant.room) }

pub loop-i-preserved : goal.loop-i-preserved
loop-i-preserved c =
    let few : length (map (λ x. x.items) c.args.lists.now) ≡ length c.args.lists.now = length-map c.args.lists.now (λ x. x.items) in
    let here : c.deref.result.now ≡ get_or (map (λ x. x.items) c.args.lists.now) c.loop-i.i [] = c.deref.ensures.value ∙ ap (λ x. x.items) c.index-lists-i.is ∙ sym (get_or-map (λ x. x.items) c.args.lists.now c.loop-i.i c.index-lists-i.result [] (omega arith)) in
    record {
      holds = held_more c.args.which c.args.event c.args.root c.args.votes.now c.loop-i.votes c.add.new.self c.args.attestations.now (map (λ x. x.items) c.args.lists.now) c.loop-i.i c.index-attestations-i.result [] _ (omega arith) (omega arith) refl
          c.loop-i.invariant.holds
          (λ carried k holds place content attesters. c.add.ensures.holds carried k holds place content (attesters ∙ sym here));
      room = other_room c.loop-i.votes c.add.new.self (map (λ x. x.items) c.args.lists.now) c.loop-i.i [] (omega arith) (λ later has. c.add.ensures.room later (subst (λ (l : List ℕ). HasRoomFor c.loop-i.votes (l ∷ later)) (sym here) has)) c.loop-i.invariant.room;
      count = c.add.ensures.count ∙ c.loop-i.invariant.count;
    }

pub returns-clause-holds : goal.returns-clause-holds
returns-clause-holds c = λ before was.
    let few : length (map (λ x. x.items) c.args.lists.now) ≡ length c.args.lists.now = length-map c.args.lists.now (λ x. x.items) in
    subst (λ (xs : List Carried). Holds c.loop-i.votes (before ++ xs)) (take_all c.loop-i.i _ (let n = how_many c.args.which c.args.event c.args.root 0 c.args.attestations.now (map (λ x. x.items) c.args.lists.now) (omega arith) in omega arith)) (c.loop-i.invariant.holds before was)
