use Rattle.std.proofs.Common.{◌≡◌, ◌∷◌, [], sym, subst, length, vec_len, arith}
use Rattle.forensics.specs.Carried.{Held, HasRoomFor}
use Rattle.forensics.proofs.CarriedRoom.{added, added_holds, added_room, added_held}
use Rattle.forensics.proofs.spans.carried.CarriedVotes.add.Goals as goal

pub invariant_of-self : goal.invariant_of-self
invariant_of-self c = added_held _ _ c.args.place c.args.content c.args.attesters.now
    (added c.push-placed.result c.take_votes-taken.result _ _ c.args.place c.args.content c.args.attesters.now (subst (λ (h : Held). HasRoomFor h (c.args.attesters.now ∷ [])) (sym c.self.view_is) c.requires.room)
    c.push-placed.ensures.items (λ less. c.push-placed.ensures.succeeds (let full : vec_len c.self.inside.places ≡ length c.self.inside.places.items = c.self.inside.places.ok.0 in omega arith)) c.push-placed.ensures.capacity c.take_votes-taken.ensures.more c.take_votes-taken.ensures.stands c.take_votes-taken.ensures.spare c.take_votes-taken.ensures.grows c.take_votes-taken.ensures.room)
    c.self.invariant

pub returns-clause-holds : goal.returns-clause-holds
returns-clause-holds c = added_holds _ _ _ c.args.place c.args.content c.args.attesters.now c.self.view_is
    (added c.push-placed.result c.take_votes-taken.result _ _ c.args.place c.args.content c.args.attesters.now (subst (λ (h : Held). HasRoomFor h (c.args.attesters.now ∷ [])) (sym c.self.view_is) c.requires.room)
    c.push-placed.ensures.items (λ less. c.push-placed.ensures.succeeds (let full : vec_len c.self.inside.places ≡ length c.self.inside.places.items = c.self.inside.places.ok.0 in omega arith)) c.push-placed.ensures.capacity c.take_votes-taken.ensures.more c.take_votes-taken.ensures.stands c.take_votes-taken.ensures.spare c.take_votes-taken.ensures.grows c.take_votes-taken.ensures.room)

pub returns-clause-room : goal.returns-clause-room
returns-clause-room c = added_room _ _ _ c.args.place c.args.content c.args.attesters.now c.self.view_is
    (added c.push-placed.result c.take_votes-taken.result _ _ c.args.place c.args.content c.args.attesters.now (subst (λ (h : Held). HasRoomFor h (c.args.attesters.now ∷ [])) (sym c.self.view_is) c.requires.room)
    c.push-placed.ensures.items (λ less. c.push-placed.ensures.succeeds (let full : vec_len c.self.inside.places ≡ length c.self.inside.places.items = c.self.inside.places.ok.0 in omega arith)) c.push-placed.ensures.capacity c.take_votes-taken.ensures.more c.take_votes-taken.ensures.stands c.take_votes-taken.ensures.spare c.take_votes-taken.ensures.grows c.take_votes-taken.ensures.room)
