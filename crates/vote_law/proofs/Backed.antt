-- What a step leaves of a state so that the attestations that wait in it stay backed.
use Rattle.std.proofs.Common.{◌≡◌, ◌∙◌, ℕ, Bool, List, [], ◌∷◌, refl, sym, ap, subst, arith}
use Rattle.std.specs.List.{AllByRecursion}
use Rattle.bc_preset.specs.declared.presets.Preset.{Preset}
use Rattle.beacon_types.specs.declared.attestation_data.AttestationData.{AttestationData}
use Rattle.beacon_types.specs.declared.checkpoint.Checkpoint.{Checkpoint}
use Rattle.beacon_types.specs.declared.pending_attestation.PendingAttestation.{PendingAttestation}
use Rattle.spec_state.specs.declared.plain.PlainState.{PlainState}
use Rattle.spec_state.specs.Misc.{compute_epoch_at_slot}
use Rattle.spec_state.specs.Accessors.{get_current_epoch, get_previous_epoch, get_attesting_indices, members_with_bits}
use Rattle.spec_blocks.proofs.Sound.{SameCommittees, same_count, same_committee, same_previous}
use Rattle.vote_law.specs.Backed.{Votes, IsBackedBy, IsBacked}

-- all votes of one kind are of another
abbrev pub More : Votes → Votes → Type 0
More votes others = (voted : AttestationData) (attesters : List ℕ) → votes voted attesters → others voted attesters

-- attesters are those of the committee
pub same_attesters : (s t : PlainState) (voted : AttestationData) (bits : List Bool) → SameCommittees s t (compute_epoch_at_slot s.preset voted.slot)
    → get_attesting_indices t voted bits ≡ get_attesting_indices s voted bits
unfolding get_attesting_indices
same_attesters s t voted bits same = ap (λ (committee : List ℕ). members_with_bits committee bits) (same_committee s t voted.slot voted.index same)

pub backed_stays : (votes others : Votes) (s t : PlainState) (epoch : ℕ) (justified : Checkpoint) (a : PendingAttestation) → More votes others → SameCommittees s t epoch
    → IsBackedBy votes s epoch justified a → IsBackedBy others t epoch justified a
backed_stays votes others s t epoch justified a more same backed = record {
  slot_epoch = ap (λ (p : Preset). compute_epoch_at_slot p a.content.slot) same.preset ∙ backed.slot_epoch;
  target = backed.target;
  index = let count = same_count s t epoch same in let low = backed.index in omega arith;
  source = backed.source;
  carried = subst (λ (attesters : List ℕ). others a.content attesters)
      (sym (same_attesters s t a.content a.aggregation_bits (subst (λ (e : ℕ). SameCommittees s t e) (sym backed.slot_epoch) same)))
      (more a.content _ backed.carried);
}

pub all_backed_stay : (votes others : Votes) (s t : PlainState) (epoch : ℕ) (justified : Checkpoint) → More votes others → SameCommittees s t epoch
    → (list : List PendingAttestation) → AllByRecursion (IsBackedBy votes s epoch justified) list → AllByRecursion (IsBackedBy others t epoch justified) list
all_backed_stay votes others s t epoch justified more same [] all = tt
all_backed_stay votes others s t epoch justified more same (a ∷ list) all =
    (backed_stays votes others s t epoch justified a more same all.0, all_backed_stay votes others s t epoch justified more same list all.1)

-- What a step leaves so that attestations stay backed
pub record Stands (s t : PlainState) : Type 0 where
  pub epoch : get_current_epoch t ≡ get_current_epoch s
  pub current : SameCommittees s t (get_current_epoch s)
  pub previous : SameCommittees s t (get_previous_epoch s)
  pub previous_justified : t.previous_justified_checkpoint ≡ s.previous_justified_checkpoint
  pub current_justified : t.current_justified_checkpoint ≡ s.current_justified_checkpoint
  pub previous_attestations : t.previous_epoch_attestations ≡ s.previous_epoch_attestations
  pub current_attestations : t.current_epoch_attestations ≡ s.current_epoch_attestations

-- those of a list, for an epoch, a justified checkpoint and a list that are the same
pub moved : (votes : Votes) (t : PlainState) {e f : ℕ} {c d : Checkpoint} {xs ys : List PendingAttestation} → e ≡ f → c ≡ d → xs ≡ ys
    → AllByRecursion (IsBackedBy votes t e c) xs → AllByRecursion (IsBackedBy votes t f d) ys
moved votes t {e} {f} {c} {d} {xs} {ys} epoch justified list all =
    subst (λ (zs : List PendingAttestation). AllByRecursion (IsBackedBy votes t f d) zs) list
    (subst (λ (k : Checkpoint). AllByRecursion (IsBackedBy votes t f k) xs) justified (subst (λ (n : ℕ). AllByRecursion (IsBackedBy votes t n c) xs) epoch all))

pub still_backed : (votes others : Votes) (s t : PlainState) → More votes others → Stands s t → IsBacked votes s → IsBacked others t
still_backed votes others s t more stands backed = record {
  current = moved others t (sym stands.epoch) (sym stands.current_justified) (sym stands.current_attestations)
      (all_backed_stay votes others s t (get_current_epoch s) s.current_justified_checkpoint more stands.current s.current_epoch_attestations backed.current);
  previous = moved others t (sym (same_previous s t stands.epoch)) (sym stands.previous_justified) (sym stands.previous_attestations)
      (all_backed_stay votes others s t (get_previous_epoch s) s.previous_justified_checkpoint more stands.previous s.previous_epoch_attestations backed.previous);
  early = λ low. let same = stands.epoch in stands.previous_justified ∙ (backed.early (omega arith) ∙ sym stands.current_justified);
}

pub no_more : (votes : Votes) → More votes votes
no_more votes = λ voted attesters is. is

pub same_stays : (s t u : PlainState) (epoch : ℕ) → SameCommittees s t epoch → SameCommittees t u epoch → SameCommittees s u epoch
same_stays s t u epoch one other = record { preset = other.preset ∙ one.preset; active = other.active ∙ one.active; seed = other.seed ∙ one.seed }

pub stands_itself : (s : PlainState) → Stands s s
stands_itself s = record {
  epoch = refl;
  current = record { preset = refl; active = refl; seed = refl };
  previous = record { preset = refl; active = refl; seed = refl };
  previous_justified = refl;
  current_justified = refl;
  previous_attestations = refl;
  current_attestations = refl;
}

-- a state is backed by more votes
pub backed_more : (votes others : Votes) (s : PlainState) → More votes others → IsBacked votes s → IsBacked others s
backed_more votes others s more backed = still_backed votes others s s more (stands_itself s) backed
