-- Room for the attestations of a block.
use Rattle.std.proofs.Common.{◌≡◌, ◌∙◌, ℕ, ◌+◌, ◌<◌, ◌≤◌, ◌^◌, inl, inr, List, [], ◌∷◌, ◌++◌, map, length, get_or, if◌then◌else◌, Result, Ok, Err, OnOk, IsOk, is_ok, refl, sym, ap, subst, arith, length-append}
use Rattle.std.proofs.lemmas.Bool.{cases_lt, false≢true}
use Rattle.std.proofs.lemmas.List.{map-append}
use Rattle.std.proofs.lemmas.List.Elements.{All-tail}
use Rattle.beacon_types.specs.declared.attestation_data.AttestationData.{AttestationData}
use Rattle.bc_words.specs.declared.stop.NoMemory.{NoMemory}
use Rattle.forensics.specs.Spans.{HeldSpans}
use Rattle.forensics.specs.AllSpans.{AreSpansOf}
use Rattle.forensics.specs.Room.{all_of, all_in, HasRoom, Grows, IsSame, IsReserved, AreReserved, StandOnce}
use Rattle.forensics.proofs.Takes.{stands_same}
use Rattle.forensics.specs.declared.spans.place.Place.{Place}
use Rattle.forensics.specs.Carried.{Carried, Held, Holds, IsHeld, HasRoomFor, place_of}

of_ok : {X E : Type 0} (result : Result X E) (P : Type 0) → OnOk result P → IsOk result → P
of_ok (Ok x) P says ok = says
of_ok (Err e) P says ok = absurd (false≢true ok)

-- ---- room that was made

lists_few : (lists : List (List ℕ)) → StandOnce lists → (w : ℕ) → all_in lists w ≤ length lists
unfolding all_in
lists_few [] once w = omega arith
lists_few (l ∷ lists) once w =
    let one : all_of l w ≤ 1 = once.once 0 l (omega arith) w in
    let rest : all_in lists w ≤ length lists = lists_few lists (record { once = All-tail (λ attesters. (validator : ℕ) → all_of attesters validator ≤ 1) l lists once.once }) w in
    omega arith

one_reserved : (spans : List HeldSpans) (n : ℕ) (lists : List (List ℕ)) → AreReserved spans n lists → (w : ℕ) (d : HeldSpans) → w < length spans → 0 < all_in lists w → length (get_or spans w d).spans.votes + n ≤ (get_or spans w d).room
unfolding all_in
one_reserved spans n [] are w d inside some = absurd (omega arith)
one_reserved spans n (l ∷ lists) are w d inside some = elim (cases_lt 0 (all_of l w)) [
  | inl here ↦ (are.each 0 l (omega arith)).room w d inside here
  | inr none ↦ one_reserved spans n lists (record { each = All-tail (IsReserved spans n) l lists are.each }) w d inside (omega arith)
]

pub room_made : (spans : List HeldSpans) (n : ℕ) (lists : List (List ℕ)) → AreReserved spans n lists → StandOnce lists → length lists ≤ n → HasRoom spans (all_in lists)
room_made spans n lists are once few = record {
  room = λ w d inside some. let r = one_reserved spans n lists are w d inside some in let m = lists_few lists once w in omega arith;
}

-- ---- room that is left

pub room_left : (held now : Held) (place : Place) (content : AttestationData) (attesters : List ℕ) (later : List (List ℕ)) → now.places ≡ held.places ++ place ∷ [] → now.spans.contents ≡ held.spans.contents ++ content ∷ []
    → Grows held.spans.spans now.spans.spans (all_of attesters) → held.spans.room ≤ now.spans.room → held.room ≤ now.room → HasRoomFor held (attesters ∷ later) → HasRoomFor now later
unfolding all_in
room_left held now place content attesters later places contents grows spans_room room has =
    let p : length now.places ≡ length held.places + 1 = ap length places ∙ length-append held.places (place ∷ []) in
    let c : length now.spans.contents ≡ length held.spans.contents + 1 = ap length contents ∙ length-append held.spans.contents (content ∷ []) in
    let hp = has.places in
    let hc = has.contents in
    let hf = has.few in
    record {
      places = omega arith;
      contents = omega arith;
      votes = record {
        room = λ w d h some.
            let n = grows.count in
            let v = grows.votes w d (omega arith) in
            let r = grows.room w d (omega arith) in
            let o = has.votes.room w d (omega arith) (omega arith) in
            omega arith;
      };
      few = omega arith;
    }

-- ---- one attestation more

pub one_held : (held now : Held) (place : Place) (content : AttestationData) (attesters : List ℕ) → now.places ≡ held.places ++ place ∷ [] → now.spans.contents ≡ held.spans.contents ++ content ∷ []
    → ((attested : List (List ℕ)) → AreSpansOf held.spans attested → AreSpansOf now.spans (attested ++ attesters ∷ []))
    → (carried : List Carried) (c : Carried) → Holds held carried → place_of c ≡ place → c.content ≡ content → c.attesters ≡ attesters → Holds now (carried ++ c ∷ [])
one_held held now place content attesters places contents stand carried c holds place_is content_is attesters_are = record {
  places = places ∙ ap (λ ps. ps ++ place ∷ []) holds.places ∙ ap (λ p. map place_of carried ++ p ∷ []) (sym place_is) ∙ sym (map-append place_of carried (c ∷ []));
  contents = contents ∙ ap (λ cs. cs ++ content ∷ []) holds.contents ∙ ap (λ x. map (λ (k : Carried). k.content) carried ++ x ∷ []) (sym content_is) ∙ sym (map-append (λ (k : Carried). k.content) carried (c ∷ []));
  stand = subst (AreSpansOf now.spans) (ap (λ a. map (λ (k : Carried). k.attesters) carried ++ a ∷ []) (sym attesters_are) ∙ sym (map-append (λ (k : Carried). k.attesters) carried (c ∷ []))) (stand (map (λ (k : Carried). k.attesters) carried) holds.stand);
}

-- ---- more room

pub same_held : (held now : Held) → now.places ≡ held.places → now.spans.contents ≡ held.spans.contents → IsSame held.spans.spans now.spans.spans → (carried : List Carried) → Holds held carried → Holds now carried
same_held held now places contents same carried holds = record {
  places = places ∙ holds.places;
  contents = contents ∙ holds.contents;
  stand = stands_same held.spans.contents now.spans.contents held.spans.spans now.spans.spans held.spans.room now.spans.room (map (λ (k : Carried). k.attesters) carried) contents same holds.stand;
}

-- ---- the same, as code comes by it

first_room : (held : Held) (attesters : List ℕ) (later : List (List ℕ)) → HasRoomFor held (attesters ∷ later) → HasRoom held.spans.spans (all_of attesters)
unfolding all_in
first_room held attesters later has = record { room = λ w d h some. let r = has.votes.room w d h (omega arith) in omega arith }

pub record IsAdded (held now : Held) (place : Place) (content : AttestationData) (attesters : List ℕ) : Type 0 where
  pub places : now.places ≡ held.places ++ place ∷ []
  pub contents : now.spans.contents ≡ held.spans.contents ++ content ∷ []
  pub stand : (attested : List (List ℕ)) → AreSpansOf held.spans attested → AreSpansOf now.spans (attested ++ attesters ∷ [])
  pub grows : Grows held.spans.spans now.spans.spans (all_of attesters)
  pub spans_room : held.spans.room ≤ now.spans.room
  pub room : held.room ≤ now.room

pub added : {U V E F : Type 0} (p : Result U E) (t : Result V F) (own now : Held) (place : Place) (content : AttestationData) (attesters : List ℕ) → HasRoomFor own (attesters ∷ [])
    → now.places ≡ (if is_ok p then own.places ++ place ∷ [] else own.places) → (length own.places < own.room → IsOk p) → own.room ≤ now.room
    → OnOk t (now.spans.contents ≡ own.spans.contents ++ content ∷ []) → ((attested : List (List ℕ)) → AreSpansOf own.spans attested → OnOk t (AreSpansOf now.spans (attested ++ attesters ∷ [])))
    → (length own.spans.contents < own.spans.room → HasRoom own.spans.spans (all_of attesters) → IsOk t)
    → Grows own.spans.spans now.spans.spans (all_of attesters) → own.spans.room ≤ now.spans.room → IsAdded own now place content attesters
added p t own now place content attesters has placed places_ok room put stands put_ok grows spans_room =
    let hp = has.places in
    let hc = has.contents in
    let ok : IsOk t = put_ok (omega arith) (first_room own attesters [] has) in
    record {
      places = placed ∙ ap (λ b. if b then own.places ++ place ∷ [] else own.places) (places_ok (omega arith));
      contents = of_ok t _ put ok;
      stand = λ attested are. of_ok t _ (stands attested are) ok;
      grows = grows;
      spans_room = spans_room;
      room = room;
    }

pub added_holds : (own held now : Held) (place : Place) (content : AttestationData) (attesters : List ℕ) → own ≡ held → IsAdded own now place content attesters
    → (carried : List Carried) (c : Carried) → Holds held carried → place_of c ≡ place → c.content ≡ content → c.attesters ≡ attesters → Holds now (carried ++ c ∷ [])
added_holds own held now place content attesters e is carried c holds place_is content_is attesters_are =
    one_held own now place content attesters is.places is.contents is.stand carried c (subst (λ (h : Held). Holds h carried) (sym e) holds) place_is content_is attesters_are

pub added_room : (own held now : Held) (place : Place) (content : AttestationData) (attesters : List ℕ) → own ≡ held → IsAdded own now place content attesters → (later : List (List ℕ)) → HasRoomFor held (attesters ∷ later) → HasRoomFor now later
added_room own held now place content attesters e is later has =
    room_left own now place content attesters later is.places is.contents is.grows is.spans_room is.room (subst (λ (h : Held). HasRoomFor h (attesters ∷ later)) (sym e) has)

pub added_held : (own now : Held) (place : Place) (content : AttestationData) (attesters : List ℕ) → IsAdded own now place content attesters → IsHeld own → IsHeld now
unfolding place_of
added_held own now place content attesters is are =
    let c : Carried = record { which = place.which; event = place.event; position = place.position; block_root = place.block_root; content = content; attesters = attesters } in
    record { carried = are.carried ++ c ∷ []; holds = one_held own now place content attesters is.places is.contents is.stand are.carried c are.holds refl refl refl }

pub reserved : {U : Type 0} (r : Result U NoMemory) (now : Held) (n : ℕ) (lists : List (List ℕ)) → StandOnce lists → length lists ≡ n → length now.places + n ≤ now.room → OnOk r (length now.spans.contents + n ≤ now.spans.room)
    → OnOk r (AreReserved now.spans.spans n lists) → length now.spans.contents + n ≤ 2 ^ 32 → OnOk r (HasRoomFor now lists)
reserved (Err x) now n lists once count places contents each few = tt
reserved (Ok x) now n lists once count places contents each few = record {
  places = omega arith;
  contents = omega arith;
  votes = room_made now.spans.spans n lists each once (omega arith);
  few = omega arith;
}
