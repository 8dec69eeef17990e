-- The attestations of a block, one after the other.
use Rattle.std.proofs.Common.{◌≡◌, ◌∙◌, ℕ, zero, suc, ◌+◌, ◌<◌, List, [], ◌∷◌, ◌++◌, length, get_or, take, drop, refl, sym, ap, subst, arith, append_assoc}
use Rattle.std.proofs.lemmas.List.{take_more, drop_more}
use Rattle.beacon_types.specs.declared.attestation.Attestation.{Attestation}
use Rattle.forensics.specs.Room.{all_in}
use Rattle.forensics.specs.Carried.{Carried, Held, Holds, HasRoomFor, place_of}
use Rattle.forensics.specs.declared.spans.place.Place.{Place}
use Rattle.forensics.specs.inside.BlockVotes.{carried_at, carried_from}

-- ---- room

room_for_one : (held : Held) (attesters : List ℕ) (later : List (List ℕ)) → HasRoomFor held (attesters ∷ later) → HasRoomFor held (attesters ∷ [])
unfolding all_in
room_for_one held attesters later has =
    let p = has.places in
    let c = has.contents in
    let f = has.few in
    record {
      places = omega arith;
      contents = omega arith;
      votes = record { room = λ w e inside some. let r = has.votes.room w e inside (omega arith) in omega arith };
      few = omega arith;
    }

-- room for lists is room for the first of them
pub first_room : (held : Held) (lists : List (List ℕ)) (i : ℕ) (d : List ℕ) → i < length lists → HasRoomFor held (drop i lists) → HasRoomFor held (get_or lists i d ∷ [])
first_room held lists i d less has = room_for_one held (get_or lists i d) (drop (i + 1) lists) (subst (HasRoomFor held) (drop_more lists i d less) has)

-- and what is left of it, behind the first, is room for the others
pub other_room : (held now : Held) (lists : List (List ℕ)) (i : ℕ) (d : List ℕ) → i < length lists → ((later : List (List ℕ)) → HasRoomFor held (get_or lists i d ∷ later) → HasRoomFor now later)
    → HasRoomFor held (drop i lists) → HasRoomFor now (drop (i + 1) lists)
other_room held now lists i d less leaves has = leaves (drop (i + 1) lists) (subst (HasRoomFor held) (drop_more lists i d less) has)

-- ---- the attestations

module _ (which event : ℕ) (root : List ℕ) where
  pub how_many : (position : ℕ) (attestations : List Attestation) (lists : List (List ℕ)) → length lists ≡ length attestations → length (carried_from which event root position attestations lists) ≡ length attestations
  unfolding carried_from
  how_many position [] lists e = refl
  how_many position (a ∷ attestations) [] e = absurd (omega arith)
  how_many position (a ∷ attestations) (l ∷ lists) e = ap suc (how_many (position + 1) attestations lists (omega arith))

  pub at_place : (position n : ℕ) (attestations : List Attestation) (lists : List (List ℕ)) (i : ℕ) (c : Carried) (a : Attestation) (l : List ℕ) → length lists ≡ length attestations → i < length attestations → position + i ≡ n
      → get_or (carried_from which event root position attestations lists) i c ≡ carried_at which event root n (get_or attestations i a) (get_or lists i l)
  unfolding carried_from
  at_place position n [] lists i c a l e less there = absurd (omega arith)
  at_place position n (x ∷ attestations) [] i c a l e less there = absurd (omega arith)
  at_place position n (x ∷ attestations) (y ∷ lists) zero c a l e less there = ap (λ (k : ℕ). carried_at which event root k x y) (omega arith)
  at_place position n (x ∷ attestations) (y ∷ lists) (suc i) c a l e less there = at_place (position + 1) n attestations lists i c a l (omega arith) (omega arith) (omega arith)

  pub one_more : (attestations : List Attestation) (lists : List (List ℕ)) (i : ℕ) (a : Attestation) (l : List ℕ) → length lists ≡ length attestations → i < length attestations
      → take (i + 1) (carried_from which event root 0 attestations lists) ≡ take i (carried_from which event root 0 attestations lists) ++ carried_at which event root i (get_or attestations i a) (get_or lists i l) ∷ []
  one_more attestations lists i a l e less =
      let c : Carried = carried_at which event root i (get_or attestations i a) (get_or lists i l) in
      let all : List Carried = carried_from which event root 0 attestations lists in
      let few : length all ≡ length attestations = how_many 0 attestations lists e in
      take_more all i c (omega arith) ∙ ap (λ (x : Carried). take i all ++ x ∷ []) (at_place 0 i attestations lists i c a l e less (omega arith))

  -- one of them is added to votes that hold those before it
  pub held_more : (old held now : Held) (attestations : List Attestation) (lists : List (List ℕ)) (i : ℕ) (a : Attestation) (l : List ℕ) (place : Place) → length lists ≡ length attestations → i < length attestations
      → place ≡ record { which = which; event = event; position = i; block_root = root }
      → ((before : List Carried) → Holds old before → Holds held (before ++ take i (carried_from which event root 0 attestations lists)))
      → ((carried : List Carried) (c : Carried) → Holds held carried → place_of c ≡ place → c.content ≡ (get_or attestations i a).content → c.attesters ≡ get_or lists i l → Holds now (carried ++ c ∷ []))
      → (before : List Carried) → Holds old before → Holds now (before ++ take (i + 1) (carried_from which event root 0 attestations lists))
  unfolding place_of carried_at
  held_more old held now attestations lists i a l place e less is holds adds before was =
      let all : List Carried = carried_from which event root 0 attestations lists in
      let c : Carried = carried_at which event root i (get_or attestations i a) (get_or lists i l) in
      subst (Holds now) (append_assoc before (take i all) (c ∷ []) ∙ ap (λ (xs : List Carried). before ++ xs) (sym (one_more attestations lists i a l e less)))
      (adds (before ++ take i all) c (holds before was) (sym is) refl refl)
