-- Two chains that finalise checkpoints and share no target checkpoint from the lesser of these on have two links for
-- which nobody may vote both.
use Rattle.std.proofs.Common.{◌≡◌, ℕ, true, ◌+◌, ◌<◌, ◌≤◌, ◌⊎◌, inl, inr, min, List, [], ◌∷◌, map, refl, sym, ap, ◌∙◌, subst, arith}
use Rattle.std.specs.Prelude.{◌||◌}
use Rattle.std.proofs.lemmas.Bool.{cases_order}
use Rattle.std.proofs.lemmas.Bool.Decides.{Decides-or, Decides-and, Decides-not, Decides-eqb, Decides-ltb}
use Rattle.beacon_types.specs.Equality.{same_data}
use Rattle.beacon_types.proofs.Equality.{data_decides}
use Rattle.beacon_types.specs.declared.checkpoint.Checkpoint.{Checkpoint}
use Rattle.beacon_types.specs.declared.attestation_data.AttestationData.{AttestationData}
use Rattle.beacon_types.specs.Slashable.{is_slashable_attestation_data}
use Rattle.ffg_law.specs.declared.link.Link.{Link}
use Rattle.ffg_law.specs.Weights.{among, both, IsTwoThirds, IsThird}
use Rattle.ffg_law.specs.Links.{Voted, links_of, IsOneOf, IsJustified, IsChain, Reaches, IsFinalized, AreApart, IsSlashable, Conflict, link_of, HaveTwoThirds, AThirdIsConvicted}
use Rattle.ffg_law.proofs.Weights.{weight_grows, third_is_shared}
use Rattle.ffg_law.proofs.Ends.{both_split}

-- a link of the list with this target
record Leads (links : List Link) (c : Checkpoint) : Type 0 where
  by : Link
  made : IsOneOf by links
  ends : by.target ≡ c

-- a link of the list to this epoch
record LeadsTo (links : List Link) (epoch : ℕ) : Type 0 where
  by : Link
  made : IsOneOf by links
  ends : by.target.epoch ≡ epoch

leads_of : (links : List Link) (c : Checkpoint) → IsOneOf c (map (λ l. l.target) links) → Leads links c
leads_of [] c h = absurd h
leads_of (l ∷ ls) c (inl e) = record { by = l; made = inl refl; ends = e }
leads_of (l ∷ ls) c (inr h) = let r = leads_of ls c h in record { by = r.by; made = inr r.made; ends = r.ends }

leads_to_of : (links : List Link) (epoch : ℕ) → Reaches links epoch → LeadsTo links epoch
leads_to_of [] epoch h = absurd h
leads_to_of (l ∷ ls) epoch (inl e) = record { by = l; made = inl refl; ends = e }
leads_to_of (l ∷ ls) epoch (inr h) = let r = leads_to_of ls epoch h in record { by = r.by; made = inr r.made; ends = r.ends }

-- what earlier links justify is justified
later_justified : (genesis : Checkpoint) (l : Link) (earlier : List Link) (c : Checkpoint) → IsJustified genesis earlier c → IsJustified genesis (l ∷ earlier) c
later_justified genesis l earlier c (inl e) = inl e
later_justified genesis l earlier c (inr h) = inr (inr h)

-- the source of each link of a chain is justified
pub source_justified : (genesis : Checkpoint) (links : List Link) (l : Link) → IsChain genesis links → IsOneOf l links → IsJustified genesis links l.source
source_justified genesis [] l chain h = absurd h
source_justified genesis (k ∷ ks) l chain (inl e) = later_justified genesis k ks l.source (subst (λ (v : Link). IsJustified genesis ks v.source) e chain.0)
source_justified genesis (k ∷ ks) l chain (inr h) = later_justified genesis k ks l.source (source_justified genesis ks l chain.1 h)

-- a finalised checkpoint is the target of a link
final_is_led_to : (genesis : Checkpoint) (links : List Link) (c : Checkpoint) → genesis.epoch ≡ 0 → IsChain genesis links → IsFinalized links c → Leads links c
final_is_led_to genesis links c zero chain f =
    elim (source_justified genesis links f.by chain f.made) [
      | inl e ↦ absurd (let same : genesis.epoch ≡ c.epoch = ap (λ (v : Checkpoint). v.epoch) (e ∙ f.begins) in omega (arith, f.above))
      | inr h ↦ leads_of links c (subst (λ v. IsOneOf v (map (λ l. l.target) links)) f.begins h)
    ]

less_or_not : (m n : ℕ) → (m < n) ⊎ (n ≤ m)
less_or_not m n = elim (cases_order m n) [ inl e ↦ inr (omega arith) | inr h ↦ elim h [ inl less ↦ inl less | inr more ↦ inr (omega arith) ] ]

-- a link between these epochs, or none
record Between (links : List Link) (low high : ℕ) : Type 0 where
  by : Link
  made : IsOneOf by links
  from : low ≤ by.target.epoch
  to : by.target.epoch ≤ high

abbrev Outside : ℕ → ℕ → ℕ → Type 0
Outside low high epoch = (epoch < low) ⊎ (high < epoch)

abbrev AllOutside : List Link → ℕ → ℕ → Type 0
AllOutside links low high = (l : Link) → IsOneOf l links → Outside low high l.target.epoch

where_ends : (low high epoch : ℕ) → ((low ≤ epoch) × (epoch ≤ high)) ⊎ Outside low high epoch
where_ends low high epoch = elim (less_or_not epoch low) [
  | inl less ↦ inr (inl less)
  | inr from ↦ elim (less_or_not high epoch) [
    | inl less ↦ inr (inr less)
    | inr to ↦ inl (from, to)
  ]
]

between_or_not : (links : List Link) (low high : ℕ) → Between links low high ⊎ AllOutside links low high
between_or_not [] low high = inr (λ l h. absurd h)
between_or_not (l ∷ ls) low high = elim (where_ends low high l.target.epoch) [
  | inl h ↦ inl (record { by = l; made = inl refl; from = h.0; to = h.1 })
  | inr out ↦ elim (between_or_not ls low high) [
    | inl b ↦ inl (record { by = b.by; made = inr b.made; from = b.from; to = b.to })
    | inr all ↦ inr (λ k h. elim h [
      | inl e ↦ subst (λ (v : Link). Outside low high v.target.epoch) e out
      | inr more ↦ all k more
    ])
  ]
]

-- a link from before these epochs to behind them
record Crosses (links : List Link) (low high : ℕ) : Type 0 where
  by : Link
  made : IsOneOf by links
  from : by.source.epoch < low
  to : high < by.target.epoch

-- A chain that comes behind these epochs without a target among them has a link that crosses them
crosses : (genesis : Checkpoint) (links : List Link) (low high : ℕ) (l : Link) → genesis.epoch < low → IsChain genesis links → AllOutside links low high → IsOneOf l links → high < l.target.epoch → Crosses links low high
crosses genesis [] low high l zero chain out h behind = absurd h
crosses genesis (k ∷ ks) low high l zero chain out (inr h) behind =
    let r = crosses genesis ks low high l zero chain.1 (λ m made. out m (inr made)) h behind in
    record { by = r.by; made = inr r.made; from = r.from; to = r.to }
crosses genesis (k ∷ ks) low high l zero chain out (inl e) behind =
    let ends : k.target.epoch ≡ l.target.epoch = ap (λ (v : Link). v.target.epoch) e in
    elim chain.0 [
      | inl g ↦ let begins : genesis.epoch ≡ k.source.epoch = ap (λ (v : Checkpoint). v.epoch) g in record { by = k; made = inl refl; from = omega arith; to = omega arith }
      | inr h ↦
          let r = leads_of ks k.source h in
          let same : r.by.target.epoch ≡ k.source.epoch = ap (λ (v : Checkpoint). v.epoch) r.ends in
          elim (out r.by (inr r.made)) [
            | inl less ↦ record { by = k; made = inl refl; from = omega arith; to = omega arith }
            | inr more ↦
                let s = crosses genesis ks low high r.by zero chain.1 (λ m made. out m (inr made)) r.made more in
                record { by = s.by; made = inr s.made; from = s.from; to = s.to }
          ]
    ]

-- each epoch from a finalised checkpoint to the end of its link has a link
covers : (genesis : Checkpoint) (links : List Link) (c : Checkpoint) (epoch : ℕ) → genesis.epoch ≡ 0 → IsChain genesis links → (f : IsFinalized links c) → c.epoch ≤ epoch → epoch ≤ f.by.target.epoch → LeadsTo links epoch
covers genesis links c epoch zero chain f low high =
    let begins : f.by.source.epoch ≡ c.epoch = ap (λ (v : Checkpoint). v.epoch) f.begins in
    let first = final_is_led_to genesis links c zero chain f in
    let first_ends : first.by.target.epoch ≡ c.epoch = ap (λ (v : Checkpoint). v.epoch) first.ends in
    elim (cases_order epoch c.epoch) [
      | inl e ↦ record { by = first.by; made = first.made; ends = omega arith }
      | inr (inl less) ↦ absurd (omega arith)
      | inr (inr more) ↦ elim (cases_order epoch f.by.target.epoch) [
        | inl e ↦ record { by = f.by; made = f.made; ends = omega arith }
        | inr (inr above) ↦ absurd (omega arith)
        | inr (inl below) ↦ elim f.short [
          | inl next ↦ absurd (omega arith)
          | inr second ↦
              let r = leads_to_of links (f.by.source.epoch + 1) second.1 in
              let e : f.by.target.epoch ≡ f.by.source.epoch + 2 = second.0 in
              record { by = r.by; made = r.made; ends = omega (arith, r.ends) }
        ]
      ]
    ]

-- the argument where the first chain's checkpoint is the earlier one
pub conflict_of : (genesis : Checkpoint) (first second : List Link) (c d : Checkpoint) → genesis.epoch ≡ 0 → IsChain genesis first → IsChain genesis second → IsFinalized first c → IsFinalized second d → c.epoch ≤ d.epoch → ((a b : Link) → IsOneOf a first → IsOneOf b second → c.epoch ≤ a.target.epoch → a.target ≡ b.target → ⊥) → Conflict first second
conflict_of genesis first second c d zero chain other f g order apart = elim (between_or_not second c.epoch f.by.target.epoch) [
  | inl b ↦
      let a = covers genesis first c b.by.target.epoch zero chain f b.from b.to in
      record {
        a = a.by;
        b = b.by;
        a_made = a.made;
        b_made = b.made;
        slashable = inl (a.ends, apart a.by b.by a.made b.made (let e = a.ends in let h = b.from in omega arith));
      }
  | inr out ↦
      let begins : f.by.source.epoch ≡ c.epoch = ap (λ (v : Checkpoint). v.epoch) f.begins in
      let to = final_is_led_to genesis second d zero other g in
      let to_ends : to.by.target.epoch ≡ d.epoch = ap (λ (v : Checkpoint). v.epoch) to.ends in
      let behind : f.by.target.epoch < to.by.target.epoch = elim (out to.by to.made) [ inl less ↦ absurd (omega arith) | inr more ↦ more ] in
      let r = crosses genesis second c.epoch f.by.target.epoch to.by (let h = f.above in omega arith) other out to.made behind in
      record { a = f.by; b = r.by; a_made = f.made; b_made = r.made; slashable = inr (inr (let h = r.from in omega arith, r.to)) }
]

-- what two chains in either order come to
swapped : (first second : List Link) → Conflict first second → Conflict second first
swapped first second r = record {
  a = r.b;
  b = r.a;
  a_made = r.b_made;
  b_made = r.a_made;
  slashable = elim r.slashable [
    | inl double ↦ inl (sym double.0, λ same. double.1 (sym same))
    | inr h ↦ elim h [ inl s ↦ inr (inr s) | inr s ↦ inr (inl s) ]
  ];
}

-- the argument, whichever checkpoint is the earlier one
pub finals_conflict_proof : (genesis : Checkpoint) (first second : List Link) (c d : Checkpoint) → genesis.epoch ≡ 0 → IsChain genesis first → IsChain genesis second → IsFinalized first c → IsFinalized second d → AreApart (min c.epoch d.epoch) first second → Conflict first second
finals_conflict_proof genesis first second c d zero chain other f g apart = elim (less_or_not d.epoch c.epoch) [
  | inl less ↦ swapped second first (conflict_of genesis second first d c zero other chain g f (omega arith) (λ a b made_a made_b from same.
      apart b a made_b made_a (let e : b.target.epoch ≡ a.target.epoch = ap (λ (v : Checkpoint). v.epoch) (sym same) in omega arith) (sym same)))
  | inr order ↦ conflict_of genesis first second c d zero chain other f g order (λ a b made_a made_b from same.
      apart a b made_a made_b (omega arith) same)
]

-- a link of votes, with its votes
record Made (votes : List Voted) (l : Link) : Type 0 where
  by : Voted
  made : IsOneOf by votes
  is : by.link ≡ l

made_of : (votes : List Voted) (l : Link) → IsOneOf l (links_of votes) → Made votes l
made_of [] l h = absurd h
made_of (v ∷ vs) l (inl e) = record { by = v; made = inl refl; is = e }
made_of (v ∷ vs) l (inr h) = let r = made_of vs l h in record { by = r.by; made = inr r.made; is = r.is }

pub thirds_of : (weights : List ℕ) (votes : List Voted) (v : Voted) → HaveTwoThirds weights votes → IsOneOf v votes → IsTwoThirds weights (among v.validators)
thirds_of weights [] v all h = absurd h
thirds_of weights (u ∷ us) v all (inl e) = subst (λ (x : Voted). IsTwoThirds weights (among x.validators)) e all.0
thirds_of weights (u ∷ us) v all (inr h) = thirds_of weights us v all.1 h

-- two links of two thirds each, for which nobody may vote both, convict a third
pub third_of_conflict : (weights : List ℕ) (first second : List Voted) → HaveTwoThirds weights first → HaveTwoThirds weights second → Conflict (links_of first) (links_of second) → AThirdIsConvicted weights first second
third_of_conflict weights first second some other r set holds =
    let a = made_of first r.a r.a_made in
    let b = made_of second r.b r.b_made in
    let slashable : IsSlashable a.by.link b.by.link = subst (λ (x : Link). IsSlashable x b.by.link) (sym a.is) (subst (λ (x : Link). IsSlashable r.a x) (sym b.is) r.slashable) in
    let shared : IsThird weights (both (among a.by.validators) (among b.by.validators)) = third_is_shared weights _ _ (thirds_of weights first a.by some a.made) (thirds_of weights second b.by other b.made) in
    let grown = weight_grows (both (among a.by.validators) (among b.by.validators)) set (λ i both_voted.
    let votes = both_split (among a.by.validators i) (among b.by.validators i) both_voted in
    holds i (record { a = a.by; b = b.by; a_made = a.made; b_made = b.made; voted_a = votes.0; voted_b = votes.1; slashable = slashable })) 0 weights in
    omega (arith, grown, shared)

slashable_by : (a b : AttestationData) → ((a ≡ b → ⊥) × (a.target.epoch ≡ b.target.epoch)) ⊎ ((a.source.epoch < b.source.epoch) × (b.target.epoch < a.target.epoch)) → is_slashable_attestation_data a b ≡ true
unfolding is_slashable_attestation_data
slashable_by a b =
    (Decides-or _ _
    (Decides-and _ _ (Decides-not (same_data a b) (data_decides a b)) (Decides-eqb a.target.epoch b.target.epoch))
    (Decides-and _ _ (Decides-ltb a.source.epoch b.source.epoch) (Decides-ltb b.target.epoch a.target.epoch))).1

either_slashable : (a b : AttestationData) → (is_slashable_attestation_data a b ≡ true) ⊎ (is_slashable_attestation_data b a ≡ true) → (is_slashable_attestation_data a b || is_slashable_attestation_data b a) ≡ true
either_slashable a b = (Decides-or _ _ (λ e. e, λ e. e) (λ e. e, λ e. e)).1

-- votes for such links are slashable attestations, in one of both orders
pub slashable_data : (a b : AttestationData) → IsSlashable (link_of a) (link_of b) → (is_slashable_attestation_data a b || is_slashable_attestation_data b a) ≡ true
slashable_data a b (inl double) = either_slashable a b (inl (slashable_by a b (inl (λ same. double.1 (ap (λ (d : AttestationData). d.target) same), double.0))))
slashable_data a b (inr (inl around)) = either_slashable a b (inl (slashable_by a b (inr around)))
slashable_data a b (inr (inr around)) = either_slashable a b (inr (slashable_by b a (inr around)))
