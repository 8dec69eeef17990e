-- The links that a history makes: they are a chain of two thirds each, they lead to each justified checkpoint, and they
-- finalise what the history finalises.
use Rattle.std.proofs.Common.{◌≡◌, ℕ, ◌+◌, ◌*◌, ◌<◌, ◌≤◌, ◌⊎◌, inl, inr, max, Bool, true, false, ◌||◌, if◌then◌else◌, List, [], ◌∷◌, sum, map, refl, sym, ap, ◌∙◌, subst, arith}
use Rattle.std.specs.List.{AllByRecursion}
use Rattle.std.proofs.lemmas.Bool.{leb-true}
use Rattle.beacon_types.specs.declared.checkpoint.Checkpoint.{Checkpoint}
use Rattle.spec_epochs.specs.declared.justification.Justification.{Justification}
use Rattle.spec_epochs.specs.Weigh.{bit, shifted, justified_where, finalized_by, finalizing}
use Rattle.ffg_law.specs.Weights.{weight_of, among, IsTwoThirds}
use Rattle.ffg_law.specs.Links.{Voted, links_of, IsOneOf, IsJustified, IsChain, Reaches, IsFinalized, HaveTwoThirds}
use Rattle.ffg_law.specs.Histories.{EpochEnd, genesis_checkpoint, nothing_justified, first_weighed, total_of, total_of_all, IsLarge, IsWeighed, IsHistoryFrom, last_from, previous_link, current_link, have_enough, with_link, made_from, HasLink, AreLinked, IsFinalLinked, IsMadeAtEnd}
use Rattle.ffg_law.proofs.Ends.{previous_point, current_point, weighed, final_is, bits_after}
use Rattle.ffg_law.proofs.Finals.{source_justified, thirds_of}

-- a link is longer than nothing
abbrev Rise : List Voted → Type 0
Rise votes = AllByRecursion (λ v. v.link.source.epoch < v.link.target.epoch) votes

-- a link of the votes that begins at a checkpoint and ends so long before an epoch
record Carries (votes : List Voted) (source : Checkpoint) (back epoch : ℕ) : Type 0 where
  by : Voted
  made : IsOneOf by votes
  begins : by.link.source ≡ source
  ends : by.link.target.epoch + back ≡ epoch

-- a link of the votes that ends so long before an epoch
record Comes (votes : List Voted) (back epoch : ℕ) : Type 0 where
  by : Voted
  made : IsOneOf by votes
  ends : by.link.target.epoch + back ≡ epoch

-- What holds of a record before the end of an epoch, and of the links made by then
record Holds (weights : List ℕ) (votes : List Voted) (j : Justification) (epoch : ℕ) : Type 0 where
  b0 : Bool
  b1 : Bool
  b2 : Bool
  b3 : Bool
  bits_are : j.bits ≡ b0 ∷ b1 ∷ b2 ∷ b3 ∷ []
  late : 2 ≤ epoch
  previous_justified : IsJustified genesis_checkpoint (links_of votes) j.previous
  current_justified : IsJustified genesis_checkpoint (links_of votes) j.current
  previous_early : j.previous.epoch + 2 ≤ epoch
  current_early : j.current.epoch + 1 ≤ epoch
  last_is : b0 ≡ true → Carries votes j.previous 1 epoch
  before_is : b1 ≡ true → Comes votes 2 epoch
  final : 0 < j.finalized.epoch → IsFinalized (links_of votes) j.finalized
  chain : IsChain genesis_checkpoint (links_of votes)
  rise : Rise votes
  thirds : HaveTwoThirds weights votes

enough_is_thirds : (increment all part : ℕ) → 2 * increment ≤ all → max increment all * 2 ≤ max increment part * 3 → 2 * all ≤ 3 * part
enough_is_thirds increment all part large enough = omega arith

thirds_where : (increment : ℕ) (weights validators : List ℕ) → IsLarge increment weights → have_enough increment weights validators ≡ true → IsTwoThirds weights (among validators)
unfolding have_enough total_of total_of_all
thirds_where increment weights validators large e = enough_is_thirds increment (sum weights) (weight_of weights (among validators)) large (leb-true _ _ e)

-- what a list holds, it holds with one more link, where that is made
kept : (e : Bool) (v : Voted) (votes : List Voted) (u : Voted) → IsOneOf u votes → IsOneOf u (if e then v ∷ votes else votes)
kept true v votes u h = inr h
kept false v votes u h = h

new : (e : Bool) (v : Voted) (votes : List Voted) → e ≡ true → IsOneOf v (if e then v ∷ votes else votes)
new true v votes e = inl refl
new false v votes e = absurd (cc)

kept_justified : (e : Bool) (v : Voted) (votes : List Voted) (c : Checkpoint) → IsJustified genesis_checkpoint (links_of votes) c → IsJustified genesis_checkpoint (links_of (if e then v ∷ votes else votes)) c
kept_justified true v votes c (inl g) = inl g
kept_justified true v votes c (inr h) = inr (inr h)
kept_justified false v votes c h = h

kept_final : (e : Bool) (v : Voted) (votes : List Voted) (c : Checkpoint) → IsFinalized (links_of votes) c → IsFinalized (links_of (if e then v ∷ votes else votes)) c
kept_final true v votes c f = record {
  above = f.above;
  by = f.by;
  made = inr f.made;
  begins = f.begins;
  short = elim f.short [ inl next ↦ inl next | inr second ↦ inr (second.0, inr second.1) ];
}
kept_final false v votes c f = f

chain_with : (e : Bool) (v : Voted) (votes : List Voted) → IsJustified genesis_checkpoint (links_of votes) v.link.source → IsChain genesis_checkpoint (links_of votes) → IsChain genesis_checkpoint (links_of (if e then v ∷ votes else votes))
chain_with true v votes source chain = (source, chain)
chain_with false v votes source chain = chain

rise_with : (e : Bool) (v : Voted) (votes : List Voted) → v.link.source.epoch < v.link.target.epoch → Rise votes → Rise (if e then v ∷ votes else votes)
rise_with true v votes here rise = (here, rise)
rise_with false v votes here rise = rise

all_thirds_with : (e : Bool) (weights : List ℕ) (v : Voted) (votes : List Voted) → (e ≡ true → IsTwoThirds weights (among v.validators)) → HaveTwoThirds weights votes → HaveTwoThirds weights (if e then v ∷ votes else votes)
all_thirds_with true weights v votes here all = (here refl, all)
all_thirds_with false weights v votes here all = all

-- a link is one of the links
link_made : (votes : List Voted) (v : Voted) → IsOneOf v votes → IsOneOf v.link (links_of votes)
link_made [] v h = absurd h
link_made (u ∷ us) v (inl e) = inl (ap (λ (x : Voted). x.link) e)
link_made (u ∷ us) v (inr h) = inr (link_made us v h)

target_made : (votes : List Voted) (v : Voted) → IsOneOf v votes → IsOneOf v.link.target (map (λ l. l.target) (links_of votes))
target_made [] v h = absurd h
target_made (u ∷ us) v (inl e) = inl (ap (λ (x : Voted). x.link.target) e)
target_made (u ∷ us) v (inr h) = inr (target_made us v h)

comes_to : (votes : List Voted) (v : Voted) (epoch : ℕ) → IsOneOf v votes → v.link.target.epoch ≡ epoch → Reaches (links_of votes) epoch
comes_to [] v epoch h e = absurd h
comes_to (u ∷ us) v epoch (inl same) e = inl (ap (λ (x : Voted). x.link.target.epoch) same ∙ e)
comes_to (u ∷ us) v epoch (inr h) e = inr (comes_to us v epoch h e)

or_true : (p q : Bool) → (p || q) ≡ true → (p ≡ true) ⊎ (q ≡ true)
or_true true q e = inl refl
or_true false q e = inr e

-- the current checkpoint behind the end of an epoch
current_is : (P : Checkpoint → Type 0) (p c : Bool) (j : Justification) (previous current : Checkpoint) → (p ≡ true → P previous) → (c ≡ true → P current) → P j.current → P (justified_where c (justified_where p (shifted j) 1 previous) 0 current).current
unfolding justified_where shifted
current_is P p true j previous current here now before = now refl
current_is P true false j previous current here now before = here refl
current_is P false false j previous current here now before = before

previous_is : (p c : Bool) (j : Justification) (previous current : Checkpoint) → (justified_where c (justified_where p (shifted j) 1 previous) 0 current).previous ≡ j.current
unfolding justified_where shifted
previous_is true true j previous current = refl
previous_is true false j previous current = refl
previous_is false true j previous current = refl
previous_is false false j previous current = refl

finalized_is : (p c : Bool) (j : Justification) (previous current : Checkpoint) → (justified_where c (justified_where p (shifted j) 1 previous) 0 current).finalized ≡ j.finalized
unfolding justified_where shifted
finalized_is true true j previous current = refl
finalized_is true false j previous current = refl
finalized_is false true j previous current = refl
finalized_is false false j previous current = refl

-- One end of an epoch, by whether both its links are made
module _ (weights : List ℕ) (votes : List Voted) (x : EpochEnd) (p c : Bool) (h : Holds weights votes x.before x.epoch) where
  abbrev one : List Voted
  one = if p then previous_link x ∷ votes else votes

  abbrev two : List Voted
  two = if c then current_link x ∷ one else one

  abbrev middle : Justification
  middle = justified_where c (justified_where p (shifted x.before) 1 (previous_point x.epoch x.previous_root)) 0 (current_point x.epoch x.current_root)

  keeps : (v : Voted) → IsOneOf v votes → IsOneOf v two
  keeps v made = kept c (current_link x) one v (kept p (previous_link x) votes v made)

  keeps_justified : (k : Checkpoint) → IsJustified genesis_checkpoint (links_of votes) k → IsJustified genesis_checkpoint (links_of two) k
  keeps_justified k j = kept_justified c (current_link x) one k (kept_justified p (previous_link x) votes k j)

  bits_are : middle.bits ≡ c ∷ (p || h.b0) ∷ h.b1 ∷ h.b2 ∷ []
  bits_are = bits_after p c x.before _ _ h.b0 h.b1 h.b2 h.b3 h.bits_are

  before_is : middle.previous ≡ x.before.current
  before_is = previous_is p c x.before _ _

  -- the link to the epoch before, from what was justified while it ran
  carried : (p || h.b0) ≡ true → Carries two x.before.previous 1 x.epoch
  carried e = elim (or_true p h.b0 e) [
    | inl made ↦ record { by = previous_link x; made = kept c (current_link x) one _ (new p (previous_link x) votes made); begins = refl; ends = let late = h.late in omega arith }
    | inr last ↦ let r = h.last_is last in record { by = r.by; made = keeps r.by r.made; begins = r.begins; ends = r.ends }
  ]

  came : h.b1 ≡ true → Comes two 2 x.epoch
  came e = let r = h.before_is e in record { by = r.by; made = keeps r.by r.made; ends = r.ends }

  abbrev Final : Checkpoint → Type 0
  Final k = 0 < k.epoch → IsFinalized (links_of two) k

  final_is_linked : Final (finalized_by middle.bits x.epoch x.before.previous x.before.current middle.finalized)
  final_is_linked =
      let bit_0 : bit middle.bits 0 ≡ c = ap (λ (b : List Bool). bit b 0) bits_are in
      let bit_1 : bit middle.bits 1 ≡ (p || h.b0) = ap (λ (b : List Bool). bit b 1) bits_are in
      let bit_2 : bit middle.bits 2 ≡ h.b1 = ap (λ (b : List Bool). bit b 2) bits_are in
      final_is Final middle.bits x.epoch x.before.previous x.before.current middle.finalized
      (λ one_back two_back e above.
      let r = carried (sym bit_1 ∙ one_back) in
      let s = came (sym bit_2 ∙ two_back) in
      let begins : r.by.link.source.epoch ≡ x.before.previous.epoch = ap (λ (k : Checkpoint). k.epoch) r.begins in
      let ends : r.by.link.target.epoch + 1 ≡ x.epoch = r.ends in
      let between : s.by.link.target.epoch + 2 ≡ x.epoch = s.ends in
      record {
        above = above;
        by = r.by.link;
        made = link_made two r.by r.made;
        begins = r.begins;
        short = inr (omega arith, comes_to two s.by _ s.made (omega arith));
      })
      (λ one_back e above.
      let r = carried (sym bit_1 ∙ one_back) in
      let begins : r.by.link.source.epoch ≡ x.before.previous.epoch = ap (λ (k : Checkpoint). k.epoch) r.begins in
      let ends : r.by.link.target.epoch + 1 ≡ x.epoch = r.ends in
      record { above = above; by = r.by.link; made = link_made two r.by r.made; begins = r.begins; short = inl (omega arith) })
      (λ here one_back e above.
      let r = carried (sym bit_1 ∙ one_back) in
      let ends : r.by.link.target.epoch + 1 ≡ x.epoch = r.ends in
      record {
        above = above;
        by = (current_link x).link;
        made = link_made two (current_link x) (new c (current_link x) one (sym bit_0 ∙ here));
        begins = refl;
        short = inr (sym e, comes_to two r.by _ r.made (omega arith));
      })
      (λ here e above.
      record {
        above = above;
        by = (current_link x).link;
        made = link_made two (current_link x) (new c (current_link x) one (sym bit_0 ∙ here));
        begins = refl;
        short = inl (sym e);
      })
      (subst Final (sym (finalized_is p c x.before _ _)) (λ above. kept_final c (current_link x) one _ (kept_final p (previous_link x) votes _ (h.final above))))

  end_holds : (p ≡ true → IsTwoThirds weights (among x.previous)) → (c ≡ true → IsTwoThirds weights (among x.current)) → Holds weights two (finalizing middle x.epoch x.before.previous x.before.current) (x.epoch + 1)
  unfolding finalizing
  end_holds previous_thirds current_thirds =
      let late = h.late in
      let previous_early = h.previous_early in
      let current_early = h.current_early in
      record {
        b0 = c;
        b1 = p || h.b0;
        b2 = h.b1;
        b3 = h.b2;
        bits_are = bits_are;
        late = omega arith;
        previous_justified = subst (λ (k : Checkpoint). IsJustified genesis_checkpoint (links_of two) k) (sym before_is) (keeps_justified _ h.current_justified);
        current_justified = current_is (λ k. IsJustified genesis_checkpoint (links_of two) k) p c x.before _ _
            (λ e. inr (target_made two (previous_link x) (kept c (current_link x) one _ (new p (previous_link x) votes e))))
            (λ e. inr (target_made two (current_link x) (new c (current_link x) one e)))
            (keeps_justified _ h.current_justified);
        previous_early = subst (λ (k : Checkpoint). k.epoch + 2 ≤ x.epoch + 1) (sym before_is) (omega arith);
        current_early = current_is (λ k. k.epoch + 1 ≤ x.epoch + 1) p c x.before _ _ (λ e. omega arith) (λ e. omega arith) (omega arith);
        last_is = λ e. record { by = current_link x; made = new c (current_link x) one e; begins = sym before_is; ends = refl };
        before_is = λ e. let r = carried e in let ends : r.by.link.target.epoch + 1 ≡ x.epoch = r.ends in record { by = r.by; made = r.made; ends = omega arith };
        final = final_is_linked;
        chain = chain_with c (current_link x) one (kept_justified p (previous_link x) votes _ h.current_justified) (chain_with p (previous_link x) votes h.previous_justified h.chain);
        rise = rise_with c (current_link x) one (omega arith) (rise_with p (previous_link x) votes (omega arith) h.rise);
        thirds = all_thirds_with c weights (current_link x) one current_thirds (all_thirds_with p weights (previous_link x) votes previous_thirds h.thirds);
      }

-- what holds before the end of an epoch holds behind it
step : (increment : ℕ) (weights : List ℕ) (votes : List Voted) (x : EpochEnd) → IsLarge increment weights → IsWeighed increment weights x → Holds weights votes x.before x.epoch → Holds weights (with_link increment weights (current_link x) (with_link increment weights (previous_link x) votes)) x.after (x.epoch + 1)
unfolding have_enough
step increment weights votes x large is h =
    let w = weighed x.before x.epoch x.previous_root x.current_root _ _ _ x.after is in
    subst (λ (k : Justification). Holds weights (with_link increment weights (current_link x) (with_link increment weights (previous_link x) votes)) k (x.epoch + 1)) (sym w.after_is)
    (end_holds weights votes x (have_enough increment weights x.previous) (have_enough increment weights x.current) h (thirds_where increment weights x.previous large) (thirds_where increment weights x.current large))

-- at the beginning nothing is justified but genesis, and no link is made
at_first : (weights : List ℕ) → Holds weights [] nothing_justified first_weighed
at_first weights = record {
  b0 = false;
  b1 = false;
  b2 = false;
  b3 = false;
  bits_are = refl;
  late = omega arith;
  previous_justified = inl refl;
  current_justified = inl refl;
  previous_early = omega arith;
  current_early = omega arith;
  last_is = λ e. absurd (cc);
  before_is = λ e. absurd (cc);
  final = λ above. absurd (omega arith);
  chain = tt;
  rise = tt;
  thirds = tt;
}

-- a link to a checkpoint
record Leading (votes : List Voted) (k : Checkpoint) : Type 0 where
  by : Voted
  made : IsOneOf by votes
  ends : by.link.target ≡ k

leading : (votes : List Voted) (k : Checkpoint) → IsOneOf k (map (λ l. l.target) (links_of votes)) → Leading votes k
leading [] k h = absurd h
leading (v ∷ vs) k (inl e) = record { by = v; made = inl refl; ends = e }
leading (v ∷ vs) k (inr h) = let r = leading vs k h in record { by = r.by; made = inr r.made; ends = r.ends }

rises : (votes : List Voted) (v : Voted) → Rise votes → IsOneOf v votes → v.link.source.epoch < v.link.target.epoch
rises [] v all h = absurd h
rises (u ∷ us) v all (inl e) = subst (λ (w : Voted). w.link.source.epoch < w.link.target.epoch) e all.0
rises (u ∷ us) v all (inr h) = rises us v all.1 h

-- what is justified above epoch 0 has a link from an earlier justified checkpoint
has_link : (weights : List ℕ) (votes : List Voted) (j : Justification) (epoch : ℕ) → Holds weights votes j epoch → (k : Checkpoint) → IsJustified genesis_checkpoint (links_of votes) k → 0 < k.epoch → HasLink weights votes k
has_link weights votes j epoch h k (inl g) above = absurd (let e : genesis_checkpoint.epoch ≡ k.epoch = ap (λ (v : Checkpoint). v.epoch) g in omega arith)
has_link weights votes j epoch h k (inr led) above =
    let r = leading votes k led in
    let ends : r.by.link.target.epoch ≡ k.epoch = ap (λ (v : Checkpoint). v.epoch) r.ends in
    let rise = rises votes r.by h.rise r.made in
    record {
      by = r.by;
      made = r.made;
      ends = r.ends;
      from_justified = source_justified genesis_checkpoint (links_of votes) r.by.link h.chain (link_made votes r.by r.made);
      rises = omega arith;
      thirds = thirds_of weights votes r.by h.thirds r.made;
    }

final_is_justified : (weights : List ℕ) (votes : List Voted) (j : Justification) (epoch : ℕ) → Holds weights votes j epoch → 0 < j.finalized.epoch → IsJustified genesis_checkpoint (links_of votes) j.finalized
final_is_justified weights votes j epoch h above =
    let f = h.final above in
    subst (λ (k : Checkpoint). IsJustified genesis_checkpoint (links_of votes) k) f.begins (source_justified genesis_checkpoint (links_of votes) f.by h.chain f.made)

linked : (weights : List ℕ) (votes : List Voted) (j : Justification) (epoch : ℕ) → Holds weights votes j epoch → AreLinked weights votes j
linked weights votes j epoch h = record {
  previous = has_link weights votes j epoch h j.previous h.previous_justified;
  current = has_link weights votes j epoch h j.current h.current_justified;
  finalized = λ above. has_link weights votes j epoch h j.finalized (final_is_justified weights votes j epoch h above) above;
}

-- what holds behind the last end of a history
record Ended (weights : List ℕ) (votes : List Voted) (j : Justification) : Type 0 where
  epoch : ℕ
  holds : Holds weights votes j epoch

history_from : (increment : ℕ) (weights : List ℕ) → IsLarge increment weights → (xs : List EpochEnd) (votes : List Voted) (j : Justification) (epoch : ℕ) → Holds weights votes j epoch → IsHistoryFrom increment weights j epoch xs → Ended weights (made_from increment weights votes xs) (last_from j xs)
history_from increment weights large [] votes j epoch h history = record { epoch = epoch; holds = h }
history_from increment weights large (x ∷ xs) votes j epoch h history =
    let before : x.before ≡ j = history.0 in
    let now : x.epoch ≡ epoch = history.1 in
    let here = subst (λ (e : ℕ). Holds weights votes x.before e) (sym now) (subst (λ (k : Justification). Holds weights votes k epoch) (sym before) h) in
    let next = subst (λ (e : ℕ). Holds weights (with_link increment weights (current_link x) (with_link increment weights (previous_link x) votes)) x.after (e + 1)) now (step increment weights votes x large history.2 here) in
    history_from increment weights large xs _ x.after (epoch + 1) next history.3

-- what a history promises of its links
pub record Promised (weights : List ℕ) (votes : List Voted) (j : Justification) : Type 0 where
  pub chain : IsChain genesis_checkpoint (links_of votes)
  pub thirds : HaveTwoThirds weights votes
  pub linked : AreLinked weights votes j
  pub final : IsFinalLinked votes j

pub history_promises : (increment : ℕ) (weights : List ℕ) → IsLarge increment weights → (xs : List EpochEnd) → IsHistoryFrom increment weights nothing_justified first_weighed xs → Promised weights (made_from increment weights [] xs) (last_from nothing_justified xs)
history_promises increment weights large xs history =
    let r = history_from increment weights large xs [] nothing_justified first_weighed (at_first weights) history in
    record {
      chain = r.holds.chain;
      thirds = r.holds.thirds;
      linked = linked weights _ _ r.epoch r.holds;
      final = r.holds.final;
    }

-- ---- the end that made a link

one_or_before : (v u : Voted) (made : Bool) (votes : List Voted) → IsOneOf v (if made then u ∷ votes else votes) → ((made ≡ true) × (u ≡ v)) ⊎ IsOneOf v votes
one_or_before v u true votes (inl is) = inl (refl, is)
one_or_before v u true votes (inr before) = inr before
one_or_before v u false votes before = inr before

module _ (increment : ℕ) (weights : List ℕ) (v : Voted) where
  at_later_end : (x : EpochEnd) (xs : List EpochEnd) → IsMadeAtEnd increment weights xs v → IsMadeAtEnd increment weights (x ∷ xs) v
  at_later_end x xs made = record { end = made.end; listed = inr made.listed; link = made.link; enough = made.enough }

  enough_of : (u : Voted) → u ≡ v → have_enough increment weights u.validators ≡ true → have_enough increment weights v.validators ≡ true
  enough_of u is enough = ap (λ (w : Voted). have_enough increment weights w.validators) (sym is) ∙ enough

  before_or_at_end : (xs : List EpochEnd) (votes : List Voted) → IsOneOf v (made_from increment weights votes xs) → IsOneOf v votes ⊎ IsMadeAtEnd increment weights xs v
  before_or_at_end [] votes made = inl made
  before_or_at_end (x ∷ xs) votes made = elim (before_or_at_end xs (with_link increment weights (current_link x) (with_link increment weights (previous_link x) votes)) made) [
    | inr later ↦ inr (at_later_end x xs later)
    | inl here ↦ elim (one_or_before v (current_link x) (have_enough increment weights x.current) (with_link increment weights (previous_link x) votes) here) [
      | inl current ↦ inr (record { end = x; listed = inl refl; link = inr (sym current.1); enough = enough_of (current_link x) current.1 current.0 })
      | inr before ↦ elim (one_or_before v (previous_link x) (have_enough increment weights x.previous) votes before) [
        | inl previous ↦ inr (record { end = x; listed = inl refl; link = inl (sym previous.1); enough = enough_of (previous_link x) previous.1 previous.0 })
        | inr earlier ↦ inl earlier
      ]
    ]
  ]

  pub made_at_end : (history : List EpochEnd) → IsOneOf v (made_from increment weights [] history) → IsMadeAtEnd increment weights history v
  made_at_end history made = elim (before_or_at_end history [] made) [
    | inl none ↦ absurd none
    | inr at_end ↦ at_end
  ]
