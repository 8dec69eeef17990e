-- What a vote names among the kept attestations is the attestation that it names among those of the blocks.
use Rattle.std.proofs.Common.{◌≡◌, ◌∙◌, ℕ, zero, suc, ◌+◌, ◌<◌, ◌≤◌, Bool, true, false, cond, if◌then◌else◌, ◌&&◌, ◌==◌, List, [], ◌∷◌, ◌++◌, map, reverse, length, get_or, drop, slice_get, Option, Some, None, Result, is_ok, IsOk, refl, sym, ap, ap₂, subst, arith}
use Rattle.std.specs.List.{find, enumerate_from}
use Rattle.std.specs.Option.{option_map}
use Rattle.std.specs.Cmp.Lexicographic.{bytes_decides}
use Rattle.std.proofs.lemmas.Bool.{eqb-true, eq-eqb, ne_eqb, lt-ltb, ltb-true, and_parts}
use Rattle.std.proofs.lemmas.List.{reverse-append, drop_more}
use Rattle.std.proofs.Math.ListN.{drop_of_length-le}
use Rattle.bc_preset.specs.declared.configuration.ConfigValues.{ConfigValues}
use Rattle.beacon_types.specs.declared.checkpoint.Checkpoint.{Checkpoint}
use Rattle.beacon_types.specs.Equality.{same_root}
use Rattle.beacon_types.specs.declared.indexed_attestation.IndexedAttestation.{IndexedAttestation}
use Rattle.beacon_types.proofs.Equality.{data_decides}
use Rattle.beacon_types.specs.declared.attestation.Attestation.{Attestation}
use Rattle.ffg_law.specs.Links.{IsOneOf}
use Rattle.spec_state.specs.declared.plain.PlainState.{PlainState}
use Rattle.spec_forensics.specs.declared.vote.Vote.{Vote}
use Rattle.spec_forensics.specs.Histories.{AcceptedBlock}
use Rattle.spec_slasher.specs.GetIndexedAttestation.{get_indexed_attestation}
use Rattle.spec_slasher.specs.AttestationOf.{CarriedAttestation, attestations_of_block, carried_attestations, all_attestations, names, indexed, attestation_of}
use Rattle.spec_slasher.proofs.Lists.{and_true, to_any, of_any}
use Rattle.spec_slasher.proofs.Named.{attesters_of, vote_at, from_votes, into_votes, named, cast_of}
use Rattle.forensics.specs.declared.entries.Entry.{Entry}
use Rattle.forensics.specs.Books.{PlainBook}
use Rattle.forensics.specs.inside.BlockVotes.{attesters_in}
use Rattle.forensics.specs.inside.Carriers.{Attested, attested_in, indexed_of, PlainCarrier, carrier_of, carriers_of, IsHistoryKept, has_vote, where_named, named_by, or_else, named_among, named_in}
use Rattle.forensics.specs.inside.Entries.{IsKeptOf}
use Rattle.forensics.specs.inside.Whole.{PlainHistory, seen_of}

-- ---- what it is for a vote to be one of an attestation's

true_both : (a b : Bool) → (a ≡ true → b ≡ true) → (b ≡ true → a ≡ true) → a ≡ b
true_both true b there back = sym (there refl)
true_both false true there back = back refl
true_both false false there back = refl

never : (t rest : Bool) → (t && (false && rest)) ≡ false
never true rest = refl
never false rest = refl

abbrev at_place : ℕ → AcceptedBlock → ℕ × Attestation → CarriedAttestation
at_place which b x = record { which = which; accepted = b; position = x.0; attestation = x.1 }

-- an attestation as it is kept
abbrev as_kept : CarriedAttestation → Attested
as_kept c = attested_in c.accepted.state c.attestation

module _ (genesis : PlainState) (vote : Vote) where
  abbrev count : ℕ
  count = length genesis.validators

  -- the place, and then the vote
  abbrev told : CarriedAttestation → Bool
  told c =
      (c.which == vote.which)
      && (((c.accepted.event == vote.event) && same_root c.accepted.root vote.block_root) && ((c.position == vote.position) && has_vote count vote (as_kept c)))

  names_tells : (c : CarriedAttestation) → names genesis vote c ≡ true → told c ≡ true
  unfolding has_vote attested_in attesters_in attesters_of vote_at
  names_tells c is =
      let from = from_votes genesis vote c (cast_of genesis vote c is) in
      and_true _ _ (eq-eqb c.which vote.which (ap (λ (v : Vote). v.which) from.is))
      (and_true _ _
      (and_true _ _ (eq-eqb c.accepted.event vote.event (ap (λ (v : Vote). v.event) from.is)) ((bytes_decides c.accepted.root vote.block_root).1 (ap (λ (v : Vote). v.block_root) from.is)))
      (and_true _ _ (eq-eqb c.position vote.position (ap (λ (v : Vote). v.position) from.is))
      (and_true _ _ (lt-ltb vote.validator count from.low)
      (and_true _ _ ((data_decides c.attestation.content vote.content).1 (ap (λ (v : Vote). v.content) from.is))
      (to_any (λ validator. validator == vote.validator) vote.validator (attesters_of c) from.attests (eq-eqb vote.validator vote.validator refl))))))

  vote_is : (c : CarriedAttestation) → c.which ≡ vote.which → c.accepted.event ≡ vote.event → c.position ≡ vote.position → c.accepted.root ≡ vote.block_root → c.attestation.content ≡ vote.content → vote_at c vote.validator ≡ vote
  unfolding vote_at
  vote_is c which event position root content = λ i. record { which = which i; event = event i; position = position i; block_root = root i; validator = vote.validator; content = content i }

  tells_names : (c : CarriedAttestation) → told c ≡ true → names genesis vote c ≡ true
  unfolding has_vote attested_in attesters_in attesters_of
  tells_names c is =
      let a = and_parts _ _ is in
      let b = and_parts _ _ a.1 in
      let d = and_parts _ _ b.0 in
      let e = and_parts _ _ b.1 in
      let f = and_parts _ _ e.1 in
      let g = and_parts _ _ f.1 in
      let it = of_any (λ validator. validator == vote.validator) (attesters_of c) g.1 in
      named genesis vote c (into_votes genesis vote c (record {
        low = ltb-true vote.validator count f.0;
        attests = subst (λ (k : ℕ). IsOneOf k (attesters_of c)) (eqb-true it.at vote.validator it.passes) it.listed;
        is = vote_is c (eqb-true c.which vote.which a.0) (eqb-true c.accepted.event vote.event d.0) (eqb-true c.position vote.position e.0) ((bytes_decides c.accepted.root vote.block_root).0 d.1) ((data_decides c.attestation.content vote.content).0 g.0);
      }))

  names_is : (c : CarriedAttestation) → names genesis vote c ≡ told c
  names_is c = true_both (names genesis vote c) (told c) (names_tells c) (tells_names c)

  -- ---- the attestations of a block

  abbrev found : List CarriedAttestation → Option Attested
  found cs = option_map as_kept (find (names genesis vote) cs)

  found_next : (c : CarriedAttestation) (cs : List CarriedAttestation) (b : Bool) → told c ≡ b → found (c ∷ cs) ≡ cond b (Some (as_kept c)) (found cs)
  found_next c cs true is = ap (λ t. option_map as_kept (cond t (Some c) (find (names genesis vote) cs))) (names_is c ∙ is)
  found_next c cs false is = ap (λ t. option_map as_kept (cond t (Some c) (find (names genesis vote) cs))) (names_is c ∙ is)

  none_found : (f : ℕ × Attestation → CarriedAttestation) (n : ℕ) (xs : List Attestation) → ((k : ℕ) (x : Attestation) → n ≤ k → told (f (k, x)) ≡ false) → found (map f (enumerate_from n xs)) ≡ None
  none_found f n [] none = refl
  none_found f n (x ∷ xs) none =
      found_next (f (n, x)) (map f (enumerate_from (n + 1) xs)) false (none n x (omega arith)) ∙ none_found f (n + 1) xs (λ k y less. none k y (omega (arith, less)))

  module _ (which : ℕ) (b : AcceptedBlock) where
    abbrev here : Bool
    here = (b.event == vote.event) && same_root b.root vote.block_root

    told_at : (p : Bool) (k : ℕ) (x : Attestation) → which ≡ vote.which → here ≡ true → (k == vote.position) ≡ p → told (at_place which b (k, x)) ≡ p && has_vote count vote (attested_in b.state x)
    told_at p k x same is placed =
        ap (λ t. t && (here && ((k == vote.position) && has_vote count vote (attested_in b.state x)))) (eq-eqb which vote.which same)
        ∙ ap (λ t. t && ((k == vote.position) && has_vote count vote (attested_in b.state x))) is
        ∙ ap (λ t. t && has_vote count vote (attested_in b.state x)) placed

    behind : (n : ℕ) (xs : List Attestation) → which ≡ vote.which → here ≡ true → vote.position < n → found (map (at_place which b) (enumerate_from n xs)) ≡ None
    behind n xs same is less = none_found (at_place which b) n xs (λ k x up. told_at false k x same is (ne_eqb k vote.position (λ e. omega (arith, up, less, e))))

    chosen : (t : Bool) (x : Attestation) (cs : List CarriedAttestation) (n : ℕ) → n ≡ vote.position → told (at_place which b (n, x)) ≡ t → has_vote count vote (attested_in b.state x) ≡ t → found cs ≡ None
        → found (at_place which b (n, x) ∷ cs) ≡ where_named count vote (Some (attested_in b.state x))
    unfolding where_named
    chosen t x cs n at is has none =
        found_next (at_place which b (n, x)) cs t is
        ∙ ap (cond t (Some (attested_in b.state x))) none
        ∙ ap (λ (s : Bool). cond s (Some (attested_in b.state x)) None) (sym has)

    in_list : (i n : ℕ) (xs : List Attestation) → which ≡ vote.which → here ≡ true → vote.position ≡ n + i → found (map (at_place which b) (enumerate_from n xs)) ≡ where_named count vote (slice_get (map (attested_in b.state) xs) i)
    unfolding where_named
    in_list i n [] same is at = refl
    in_list zero n (x ∷ xs) same is at =
        chosen (has_vote count vote (attested_in b.state x)) x (map (at_place which b) (enumerate_from (n + 1) xs)) n (omega (arith, at)) (told_at true n x same is (eq-eqb n vote.position (omega (arith, at)))) refl (behind (n + 1) xs same is (omega (arith, at)))
    in_list (suc i) n (x ∷ xs) same is at =
        found_next (at_place which b (n, x)) (map (at_place which b) (enumerate_from (n + 1) xs)) false (told_at false n x same is (ne_eqb n vote.position (λ e. omega (arith, at, e))))
        ∙ in_list i (n + 1) xs same is (omega (arith, at))

    told_not : (k : ℕ) (x : Attestation) → here ≡ false → told (at_place which b (k, x)) ≡ false
    told_not k x is =
        ap (λ t. (which == vote.which) && (t && ((k == vote.position) && has_vote count vote (attested_in b.state x)))) is
        ∙ never (which == vote.which) ((k == vote.position) && has_vote count vote (attested_in b.state x))

    not_here : (xs : List Attestation) → here ≡ false → found (map (at_place which b) (enumerate_from 0 xs)) ≡ None
    not_here xs is = none_found (at_place which b) 0 xs (λ k x up. told_not k x is)

    by_test : (t : Bool) → which ≡ vote.which → here ≡ t → found (attestations_of_block which b) ≡ cond t (where_named count vote (slice_get (map (attested_in b.state) b.block.body.attestations) vote.position)) None
    unfolding attestations_of_block
    by_test true same is = in_list vote.position 0 b.block.body.attestations same is (omega arith)
    by_test false same is = not_here b.block.body.attestations is

    in_block : which ≡ vote.which → found (attestations_of_block which b) ≡ named_by count vote (carrier_of b)
    unfolding named_by carrier_of
    in_block same = by_test here same refl

    in_other_block : (which ≡ vote.which → ⊥) → found (attestations_of_block which b) ≡ None
    unfolding attestations_of_block
    in_other_block other = none_found (at_place which b) 0 b.block.body.attestations (λ k x up. ap (λ t. t && (here && ((k == vote.position) && has_vote count vote (attested_in b.state x)))) (ne_eqb which vote.which other))

  -- ---- a history

  or_found : (c : CarriedAttestation) (cs ds : List CarriedAttestation) (t : Bool) → told c ≡ t → found (cs ++ ds) ≡ or_else (found cs) (found ds) → found (c ∷ (cs ++ ds)) ≡ or_else (found (c ∷ cs)) (found ds)
  unfolding or_else
  or_found c cs ds true is rest = found_next c (cs ++ ds) true is ∙ ap (λ (o : Option Attested). or_else o (found ds)) (sym (found_next c cs true is))
  or_found c cs ds false is rest = found_next c (cs ++ ds) false is ∙ rest ∙ ap (λ (o : Option Attested). or_else o (found ds)) (sym (found_next c cs false is))

  found_append : (cs ds : List CarriedAttestation) → found (cs ++ ds) ≡ or_else (found cs) (found ds)
  unfolding or_else
  found_append [] ds = refl
  found_append (c ∷ cs) ds = or_found c cs ds (told c) refl (found_append cs ds)

  or_none : (o : Option Attested) → or_else o None ≡ o
  unfolding or_else
  or_none None = refl
  or_none (Some x) = refl

  or_assoc : (a b c : Option Attested) → or_else a (or_else b c) ≡ or_else (or_else a b) c
  unfolding or_else
  or_assoc None b c = refl
  or_assoc (Some x) b c = refl

  named_append : (cs : List PlainCarrier) (c : PlainCarrier) → named_among count vote (cs ++ c ∷ []) ≡ or_else (named_among count vote cs) (named_by count vote c)
  unfolding named_among or_else
  named_append [] c = or_none (named_by count vote c)
  named_append (d ∷ cs) c = ap (or_else (named_by count vote d)) (named_append cs c) ∙ or_assoc (named_by count vote d) (named_among count vote cs) (named_by count vote c)

  in_history : (which : ℕ) (blocks : List AcceptedBlock) → which ≡ vote.which → found (carried_attestations which blocks) ≡ named_among count vote (carriers_of blocks)
  unfolding carried_attestations carriers_of named_among
  in_history which [] same = refl
  in_history which (b ∷ earlier) same =
      found_append (carried_attestations which earlier) (attestations_of_block which b)
      ∙ ap₂ or_else (in_history which earlier same) (in_block which b same)
      ∙ sym (named_append (reverse (map carrier_of earlier)) (carrier_of b))
      ∙ ap (named_among count vote) (sym (reverse-append (carrier_of b ∷ []) (map carrier_of earlier)))

  in_other : (which : ℕ) (blocks : List AcceptedBlock) → (which ≡ vote.which → ⊥) → found (carried_attestations which blocks) ≡ None
  unfolding carried_attestations or_else
  in_other which [] other = refl
  in_other which (b ∷ earlier) other = found_append (carried_attestations which earlier) (attestations_of_block which b) ∙ ap₂ or_else (in_other which earlier other) (in_other_block which b other)

  -- ---- both histories

  by_which : (n : ℕ) (first second : List AcceptedBlock) → vote.which ≡ n
      → found (all_attestations first second) ≡ cond (n == 0) (named_among count vote (carriers_of first)) (cond (n == 1) (named_among count vote (carriers_of second)) None)
  unfolding all_attestations or_else
  by_which zero first second is =
      found_append (carried_attestations 0 first) (carried_attestations 1 second)
      ∙ ap₂ or_else (in_history 0 first (sym is)) (in_other 1 second (λ e. omega (arith, e, is)))
      ∙ or_none (named_among count vote (carriers_of first))
  by_which (suc zero) first second is =
      found_append (carried_attestations 0 first) (carried_attestations 1 second)
      ∙ ap₂ or_else (in_other 0 first (λ e. omega (arith, e, is))) (in_history 1 second (sym is))
  by_which (suc (suc n)) first second is =
      found_append (carried_attestations 0 first) (carried_attestations 1 second)
      ∙ ap₂ or_else (in_other 0 first (λ e. omega (arith, e, is))) (in_other 1 second (λ e. omega (arith, e, is)))
      ∙ sym (ap₂ (λ (a b : Bool). cond a (named_among count vote (carriers_of first)) (cond b (named_among count vote (carriers_of second)) None)) (ne_eqb (suc (suc n)) 0 (λ e. omega (arith, e))) (ne_eqb (suc (suc n)) 1 (λ e. omega (arith, e))))

  as_indexed : (o : Option CarriedAttestation) → option_map indexed o ≡ option_map indexed_of (option_map as_kept o)
  unfolding indexed get_indexed_attestation indexed_of attested_in attesters_in
  as_indexed None = refl
  as_indexed (Some c) = refl

  -- what a vote names is what it names among those that are kept
  pub named_is : (first second : List AcceptedBlock) → attestation_of genesis first second vote ≡ option_map indexed_of (named_in count vote first second)
  unfolding attestation_of named_in
  named_is first second = as_indexed (find (names genesis vote) (all_attestations first second)) ∙ ap (option_map indexed_of) (by_which vote.which first second refl)

-- ---- as code comes by it

pub given_back : (config : ConfigValues) (genesis : PlainState) (first second : PlainHistory) (view : PlainBook) (n : ℕ) (vote : Vote) (kept : Attested) (indexed : IndexedAttestation) → seen_of config genesis first second ≡ view
    → n ≡ length genesis.validators → Some kept ≡ named_in n vote first.blocks second.blocks → indexed ≡ indexed_of kept → Some indexed ≡ attestation_of view.genesis view.first view.second vote
given_back config genesis first second view n vote kept indexed seen count is made =
    ap Some made
    ∙ ap (option_map indexed_of) (is ∙ ap (λ (k : ℕ). named_in k vote first.blocks second.blocks) count)
    ∙ sym (named_is genesis vote first.blocks second.blocks)
    ∙ ap (λ (book : PlainBook). attestation_of book.genesis book.first book.second vote) seen

pub none_given : (config : ConfigValues) (genesis : PlainState) (first second : PlainHistory) (view : PlainBook) (n : ℕ) (vote : Vote) → seen_of config genesis first second ≡ view
    → n ≡ length genesis.validators → None ≡ named_in n vote first.blocks second.blocks → None ≡ attestation_of view.genesis view.first view.second vote
none_given config genesis first second view n vote seen count is =
    ap (option_map indexed_of) (is ∙ ap (λ (k : ℕ). named_in k vote first.blocks second.blocks) count)
    ∙ sym (named_is genesis vote first.blocks second.blocks)
    ∙ ap (λ (book : PlainBook). attestation_of book.genesis book.first book.second vote) seen

-- ---- the walk over kept blocks

pub named_here : (n : ℕ) (vote : Vote) (cs : List PlainCarrier) (i : ℕ) (c : PlainCarrier) (kept : Attested) → i < length cs → c ≡ get_or cs i c → named_among n vote (drop i cs) ≡ named_among n vote cs
    → Some kept ≡ named_by n vote c → Some kept ≡ named_among n vote cs
unfolding named_among or_else
named_here n vote cs i c kept less at left is =
    ap (λ (o : Option Attested). or_else o (named_among n vote (drop (i + 1) cs))) is
    ∙ ap (λ (x : PlainCarrier). named_among n vote (x ∷ drop (i + 1) cs)) at
    ∙ ap (named_among n vote) (sym (drop_more cs i c less))
    ∙ left

pub named_next : (n : ℕ) (vote : Vote) (cs : List PlainCarrier) (i : ℕ) (c : PlainCarrier) → i < length cs → c ≡ get_or cs i c → named_among n vote (drop i cs) ≡ named_among n vote cs
    → None ≡ named_by n vote c → named_among n vote (drop (i + 1) cs) ≡ named_among n vote cs
unfolding named_among or_else
named_next n vote cs i c less at left is =
    ap (λ (o : Option Attested). or_else o (named_among n vote (drop (i + 1) cs))) is
    ∙ ap (λ (x : PlainCarrier). named_among n vote (x ∷ drop (i + 1) cs)) at
    ∙ ap (named_among n vote) (sym (drop_more cs i c less))
    ∙ left

pub named_end : (n : ℕ) (vote : Vote) (cs : List PlainCarrier) (i : ℕ) → length cs ≤ i → named_among n vote (drop i cs) ≡ named_among n vote cs → None ≡ named_among n vote cs
unfolding named_among
named_end n vote cs i most left = ap (named_among n vote) (sym (drop_of_length-le cs most)) ∙ left

-- ---- one block more

pub one_carrier : {U E : Type 0} (r : Result U E) (old reserved now : List PlainCarrier) (c : PlainCarrier) (b : AcceptedBlock) (attestations : List Attested) → reserved ≡ old
    → now ≡ (if is_ok r then reserved ++ c ∷ [] else reserved) → IsOk r → c ≡ record { event = b.event; root = b.root; attestations = attestations } → attestations ≡ map (attested_in b.state) b.block.body.attestations
    → now ≡ old ++ carrier_of b ∷ []
unfolding carrier_of
one_carrier r old reserved now c b attestations same pushed ok is are =
    pushed
    ∙ ap (λ (t : Bool). if t then reserved ++ c ∷ [] else reserved) ok
    ∙ ap (λ (cs : List PlainCarrier). cs ++ c ∷ []) same
    ∙ ap (λ (x : PlainCarrier). old ++ x ∷ []) (is ∙ ap (λ (xs : List Attested). record { event = b.event; root = b.root; attestations = xs }) are)

pub kept_with : (genesis : PlainState) (blocks now : List AcceptedBlock) (entries : List Entry) (carriers carriers_now : List PlainCarrier) (b : AcceptedBlock) → carriers ≡ carriers_of blocks → now ≡ b ∷ blocks
    → carriers_now ≡ carriers ++ carrier_of b ∷ [] → IsKeptOf genesis now entries → IsHistoryKept genesis now entries carriers_now
unfolding carriers_of
kept_with genesis blocks now entries carriers carriers_now b are more grown is = record {
  entries_are = is;
  carriers_are =
      grown
      ∙ ap (λ (cs : List PlainCarrier). cs ++ carrier_of b ∷ []) are
      ∙ sym (reverse-append (carrier_of b ∷ []) (map carrier_of blocks))
      ∙ ap (λ (bs : List AcceptedBlock). reverse (map carrier_of bs)) (sym more);
}

pub kept_first : (genesis : PlainState) (blocks : List AcceptedBlock) (entries : List Entry) (carriers : List PlainCarrier) → blocks ≡ [] → carriers ≡ [] → IsKeptOf genesis blocks entries → IsHistoryKept genesis blocks entries carriers
unfolding carriers_of
kept_first genesis blocks entries carriers no_block none is = record { entries_are = is; carriers_are = none ∙ ap (λ (bs : List AcceptedBlock). reverse (map carrier_of bs)) (sym no_block) }

pub named_there : (view : PlainHistory) (genesis : PlainState) (blocks : List AcceptedBlock) (finalized : Checkpoint) (entries : List Entry) (carriers shown : List PlainCarrier) (n : ℕ) (vote : Vote) (o : Option Attested)
    → record { genesis = genesis; blocks = blocks; finalized = finalized } ≡ view → IsHistoryKept genesis blocks entries carriers → shown ≡ carriers → o ≡ named_among n vote shown → o ≡ named_among n vote (carriers_of view.blocks)
named_there view genesis blocks finalized entries carriers shown n vote o seen is same found =
    found ∙ ap (named_among n vote) (same ∙ is.carriers_are) ∙ ap (λ (h : PlainHistory). named_among n vote (carriers_of h.blocks)) seen
