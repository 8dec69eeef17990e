-- Who attested the block of an epoch, by a state whose pending attestations are backed: active validators, each of whose votes a
-- block carried.
use Rattle.std.proofs.Common.{◌≡◌, ◌∙◌, ℕ, ◌-◌, ◌<◌, false, not, ◌==◌, List, refl, sym, ap, subst, arith}
use Rattle.std.specs.List.{AllByRecursion, filter, list_any}
use Rattle.std.specs.Cmp.Lexicographic.{bytes_decides}
use Rattle.std.proofs.lemmas.Bool.{eq-eqb, ne_eqb}
use Rattle.bc_preset.specs.laws.Bounds.{HasPresetBounds}
use Rattle.beacon_types.specs.Equality.{same_root}
use Rattle.beacon_types.specs.declared.attestation_data.AttestationData.{AttestationData}
use Rattle.beacon_types.specs.declared.checkpoint.Checkpoint.{Checkpoint}
use Rattle.beacon_types.specs.declared.pending_attestation.PendingAttestation.{PendingAttestation}
use Rattle.spec_state.specs.declared.plain.PlainState.{PlainState}
use Rattle.spec_state.specs.Accessors.{get_current_epoch, get_previous_epoch, get_active_validator_indices, get_block_root, get_committee_count_per_slot, get_attesting_indices, indices_from}
use Rattle.spec_epochs.specs.Helpers.{attests, get_matching_source_attestations, get_matching_target_attestations, get_unslashed_attesting_indices}
use Rattle.ffg_law.specs.Weights.{AscendsFrom}
use Rattle.ffg_law.specs.Links.{link_of}
use Rattle.ffg_law.specs.declared.link.Link.{Link}
use Rattle.ffg_law.specs.Links.{IsOneOf}
use Rattle.vote_law.specs.Backed.{Votes, IsBackedBy, IsBacked}
use Rattle.spec_forensics.specs.Steady.{IsSteadyIn}
use Rattle.vote_law.specs.Ends.{target_attesters}
use Rattle.vote_law.specs.Runs.{HasVoted}
use Rattle.vote_law.proofs.Lists.{all_of, filtered}
use Rattle.vote_law.proofs.Members.{attester_is_active, Attested, attested_of}
use Rattle.vote_law.proofs.GenesisWeights.{filter_ascends, tested_ascend}

pub record IsVoter (votes : Votes) (s : PlainState) (epoch : ℕ) (link : Link) (i : ℕ) : Type 0 where
  pub voted : AttestationData
  pub attesters : List ℕ
  pub carried : votes voted attesters
  pub attests : IsOneOf i attesters
  pub votes_for : link_of voted ≡ link
  pub active : IsOneOf i (get_active_validator_indices s epoch)

pub unslashed_ascend : (s : PlainState) (list : List PendingAttestation) → AscendsFrom 0 (get_unslashed_attesting_indices s list)
unfolding get_unslashed_attesting_indices
unslashed_ascend s list = filter_ascends (λ index. list_any (attests s index) list) 0 (indices_from (λ v. not v.slashed) 0 s.validators) (tested_ascend (λ v. not v.slashed) 0 s.validators)

unslashed_attested : (s : PlainState) (list : List PendingAttestation) (i : ℕ) → IsOneOf i (get_unslashed_attesting_indices s list) → Attested s i list
unfolding get_unslashed_attesting_indices
unslashed_attested s list i one = attested_of s i list (filtered (λ index. list_any (attests s index) list) (indices_from (λ v. not v.slashed) 0 s.validators) i one).1

-- an attester of those of a list with a target
voter_of : (votes : Votes) (s : PlainState) (epoch : ℕ) (justified : Checkpoint) (root : List ℕ) (list : List PendingAttestation) (i : ℕ) → HasPresetBounds s.preset → AllByRecursion (IsBackedBy votes s epoch justified) list
    → IsOneOf i (get_unslashed_attesting_indices s (filter (λ a. same_root a.content.target.root root) list))
    → IsVoter votes s epoch (record { source = justified; target = record { epoch = epoch; root = root } }) i
voter_of votes s epoch justified root list i bounds all one =
    let found = unslashed_attested s (filter (λ a. same_root a.content.target.root root) list) i one in
    let a = found.attestation in
    let listed = filtered (λ (a : PendingAttestation). same_root a.content.target.root root) list a found.listed in
    let backed = all_of (IsBackedBy votes s epoch justified) list a all listed.0 in
    let same : a.content.target.root ≡ root = (bytes_decides a.content.target.root root).0 listed.1 in
    let active = attester_is_active s a.content a.aggregation_bits i bounds (subst (λ (e : ℕ). a.content.index < get_committee_count_per_slot s e) (sym backed.slot_epoch) backed.index) found.attests in
    record {
      voted = a.content;
      attesters = get_attesting_indices s a.content a.aggregation_bits;
      carried = backed.carried;
      attests = found.attests;
      votes_for = ap (λ (c : Checkpoint). record { source = c; target = a.content.target }) backed.source
          ∙ (ap (λ (e : ℕ). record { source = justified; target = record { epoch = e; root = a.content.target.root } }) backed.target
          ∙ ap (λ (k : List ℕ). record { source = justified; target = record { epoch = epoch; root = k } }) same);
      active = subst (λ (e : ℕ). IsOneOf i (get_active_validator_indices s e)) backed.slot_epoch active;
    }

-- ---- by epoch

previous_is_other : (s : PlainState) → 1 < get_current_epoch s → (get_previous_epoch s == get_current_epoch s) ≡ false
unfolding get_previous_epoch
previous_is_other s late = ne_eqb (get_current_epoch s - 1) (get_current_epoch s) (λ e. omega arith)

matching_current : (s : PlainState) → get_matching_source_attestations s (get_current_epoch s) ≡ s.current_epoch_attestations
unfolding get_matching_source_attestations
matching_current s = rw (eq-eqb (get_current_epoch s) (get_current_epoch s) refl) refl

matching_previous : (s : PlainState) → 1 < get_current_epoch s → get_matching_source_attestations s (get_previous_epoch s) ≡ s.previous_epoch_attestations
unfolding get_matching_source_attestations
matching_previous s late = rw (previous_is_other s late) refl

-- who attested the current epoch's block
pub current_voter : (votes : Votes) (s : PlainState) (i : ℕ) → HasPresetBounds s.preset → IsBacked votes s → IsOneOf i (target_attesters s (get_current_epoch s))
    → IsVoter votes s (get_current_epoch s) (record { source = s.current_justified_checkpoint; target = record { epoch = get_current_epoch s; root = get_block_root s (get_current_epoch s) } }) i
unfolding target_attesters get_matching_target_attestations
current_voter votes s i bounds backed one =
    let e : ℕ = get_current_epoch s in
    let root : List ℕ = get_block_root s e in
    voter_of votes s e s.current_justified_checkpoint root s.current_epoch_attestations i bounds backed.current
    (subst (λ (list : List PendingAttestation). IsOneOf i (get_unslashed_attesting_indices s (filter (λ a. same_root a.content.target.root root) list))) (matching_current s) one)

-- and the previous epoch's
pub previous_voter : (votes : Votes) (s : PlainState) (i : ℕ) → HasPresetBounds s.preset → 1 < get_current_epoch s → IsBacked votes s → IsOneOf i (target_attesters s (get_previous_epoch s))
    → IsVoter votes s (get_previous_epoch s) (record { source = s.previous_justified_checkpoint; target = record { epoch = get_previous_epoch s; root = get_block_root s (get_previous_epoch s) } }) i
unfolding target_attesters get_matching_target_attestations
previous_voter votes s i bounds late backed one =
    let e : ℕ = get_previous_epoch s in
    let root : List ℕ = get_block_root s e in
    voter_of votes s e s.previous_justified_checkpoint root s.previous_epoch_attestations i bounds backed.previous
    (subst (λ (list : List PendingAttestation). IsOneOf i (get_unslashed_attesting_indices s (filter (λ a. same_root a.content.target.root root) list))) (matching_previous s late) one)

-- ---- voters that are active at genesis

voted_at_genesis : (votes : Votes) (genesis s : PlainState) (epoch : ℕ) (link : Link) (i : ℕ) → IsSteadyIn genesis s epoch → IsVoter votes s epoch link i → HasVoted genesis votes link i
voted_at_genesis votes genesis s epoch link i steady voter = record {
  voted = voter.voted;
  attesters = voter.attesters;
  carried = voter.carried;
  attests = voter.attests;
  votes_for = voter.votes_for;
  active = subst (λ (active : List ℕ). IsOneOf i active) steady.active voter.active;
}

pub current_voted : (votes : Votes) (genesis s : PlainState) (i : ℕ) → HasPresetBounds s.preset → IsSteadyIn genesis s (get_current_epoch s) → IsBacked votes s → IsOneOf i (target_attesters s (get_current_epoch s))
    → HasVoted genesis votes (record { source = s.current_justified_checkpoint; target = record { epoch = get_current_epoch s; root = get_block_root s (get_current_epoch s) } }) i
current_voted votes genesis s i bounds steady backed attests = voted_at_genesis votes genesis s (get_current_epoch s) _ i steady (current_voter votes s i bounds backed attests)

pub previous_voted : (votes : Votes) (genesis s : PlainState) (i : ℕ) → HasPresetBounds s.preset → 1 < get_current_epoch s → IsSteadyIn genesis s (get_previous_epoch s) → IsBacked votes s → IsOneOf i (target_attesters s (get_previous_epoch s))
    → HasVoted genesis votes (record { source = s.previous_justified_checkpoint; target = record { epoch = get_previous_epoch s; root = get_block_root s (get_previous_epoch s) } }) i
previous_voted votes genesis s i bounds late steady backed attests = voted_at_genesis votes genesis s (get_previous_epoch s) _ i steady (previous_voter votes s i bounds late backed attests)
