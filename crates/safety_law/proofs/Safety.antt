-- Accountable safety: where two histories conflict on a large genesis whose validators stay, the offenders have at least a third of the
-- genesis total.
use Rattle.std.proofs.Common.{◌≡◌, ◌∙◌, ℕ, ◌*◌, ◌<◌, ◌≤◌, inl, inr, min, max, List, [], ◌∷◌, ◌++◌, map, sum, length, refl, sym, ap, subst, arith}
use Rattle.std.specs.List.{AllByRecursion, Contains}
use Rattle.std.proofs.lemmas.Bool.{cases_lt}
use Rattle.std.proofs.lemmas.List.Elements.{Contains-append_left, Contains-append_right}
use Rattle.std.proofs.Math.Nat.{mul-le-mul_left, mul_comm}
use Rattle.bc_preset.specs.declared.configuration.ConfigValues.{ConfigValues}
use Rattle.beacon_types.specs.declared.attestation_data.AttestationData.{AttestationData}
use Rattle.beacon_types.specs.declared.checkpoint.Checkpoint.{Checkpoint}
use Rattle.spec_state.specs.declared.plain.PlainState.{PlainState}
use Rattle.spec_epochs.specs.declared.justification.Justification.{Justification}
use Rattle.spec_epochs.specs.WeighJustificationAndFinalization.{justification_of}
use Rattle.ffg_law.specs.declared.link.Link.{Link}
use Rattle.ffg_law.specs.Weights.{among}
use Rattle.ffg_law.specs.Links.{Voted, IsOneOf, links_of, link_of, IsChain, IsFinalized, AreApart, IsSlashable, HaveTwoThirds}
use Rattle.ffg_law.specs.Histories.{IsLarge, genesis_checkpoint, nothing_justified, last_from, made_from}
use Rattle.ffg_law.proofs.Finals.{finals_conflict_proof, third_of_conflict, slashable_data}
use Rattle.ffg_law.proofs.Histories.{history_promises}
use Rattle.spec_forensics.specs.declared.vote.Vote.{Vote}
use Rattle.spec_forensics.specs.declared.offence.Offence.{Offence}
use Rattle.spec_forensics.specs.Histories.{AcceptedBlock, chain_to, state_behind, IsHistory}
use Rattle.spec_forensics.specs.CarriedVotes.{carried_votes, all_votes}
use Rattle.spec_forensics.specs.Offences.{offences_below}
use Rattle.spec_forensics.specs.Steady.{genesis_weights, genesis_total}
use Rattle.spec_forensics.specs.Verdict.{finalizing_root, offences_of, balance_of}
use Rattle.vote_law.proofs.Lists.{all_of}
use Rattle.safety_law.specs.Histories.{Begins, HaveOneContent, NoneIsGenesis, AreHistories}
use Rattle.safety_law.specs.Finals.{IsFinalOf, IsConflict, StaysSteady, IsLargeGenesis}
use Rattle.safety_law.proofs.Lists.{first_of, later_of, image_of, in_first, in_second}
use Rattle.safety_law.proofs.Chains.{top_of, IsKnown, AreOf, IsSound, top_is, chain_sound}
use Rattle.safety_law.proofs.Goes.{up_to, StandsOn, CarriedBy, IsSteadyChain, chain_goes}
use Rattle.safety_law.proofs.Finalizing.{finalizes, steady_chain}
use Rattle.safety_law.proofs.Links.{IsGoodLink, made_good, targets_stand}
use Rattle.safety_law.proofs.Apart.{IsOn, on_chain, part_sound, same_roots, top_on, Final, shared_is_agreed}
use Rattle.safety_law.proofs.Offenders.{VoteFor, active_is_low, vote_for_link, offends, among_offenders}

-- ---- one side

-- a block's state finalised a checkpoint, and on the chain to it the validators stay as they were at genesis
record IsFinalizing (genesis : PlainState) (blocks : List AcceptedBlock) (finalized : Checkpoint) (root : List ℕ) : Type 0 where
  finalizes : (state_behind genesis (chain_to blocks root)).finalized_checkpoint ≡ finalized
  steady : IsSteadyChain genesis (chain_to blocks root)

-- what a finalising chain gives the argument
record Ready (genesis : PlainState) (blocks : List AcceptedBlock) (final : Checkpoint) : Type 0 where
  chain : List AcceptedBlock
  sound : IsSound genesis blocks chain
  made : List Voted
  links : IsChain genesis_checkpoint (links_of made)
  thirds : HaveTwoThirds (genesis_weights genesis) made
  finalized : IsFinalized (links_of made) final
  good : AllByRecursion (IsGoodLink genesis (CarriedBy chain) (StandsOn genesis chain)) made
  stands : final.root ≡ top_of genesis (up_to chain (final.epoch * genesis.preset.slots_per_epoch))

finalized_of : (s : PlainState) (j : Justification) → j ≡ justification_of s → j.finalized ≡ s.finalized_checkpoint
unfolding justification_of
finalized_of s j is = ap (λ (k : Justification). k.finalized) is

ready : (config : ConfigValues) (genesis : PlainState) (blocks : List AcceptedBlock) (final : Checkpoint) (root : List ℕ) → Begins genesis → IsHistory config genesis blocks → IsLarge genesis.preset.effective_balance_increment (genesis_weights genesis) → IsFinalizing genesis blocks final root → 0 < final.epoch
    → Ready genesis blocks final
ready config genesis blocks final root begins history large finalizing above =
    let chain : List AcceptedBlock = chain_to blocks root in
    let run = ((chain_goes config genesis blocks root begins history).goes finalizing.steady).run tt in
    let increment : ℕ = genesis.preset.effective_balance_increment in
    let weights : List ℕ = genesis_weights genesis in
    let promised = history_promises increment weights large run.ends run.history in
    let made : List Voted = made_from increment weights [] run.ends in
    let j : Justification = last_from nothing_justified run.ends in
    let is : j.finalized ≡ final = finalized_of (state_behind genesis chain) j run.last ∙ finalizing.finalizes in
    let above_too : 0 < j.finalized.epoch = let same = ap (λ (c : Checkpoint). c.epoch) is in omega arith in
    let good = made_good increment weights genesis (CarriedBy chain) (StandsOn genesis chain) (state_behind genesis chain).slot run.ends [] tt run.good in
    let link = promised.linked.finalized above_too in
    let stands = (all_of (IsGoodLink genesis (CarriedBy chain) (StandsOn genesis chain)) made link.by good link.made).root in
    let target : link.by.link.target ≡ final = link.ends ∙ is in
    let at : StandsOn genesis chain (final.epoch * genesis.preset.slots_per_epoch) final.root = subst (λ (c : Checkpoint). StandsOn genesis chain (c.epoch * genesis.preset.slots_per_epoch) c.root) target stands in
    record {
      chain = chain;
      sound = chain_sound config genesis blocks root history;
      made = made;
      links = promised.chain;
      thirds = promised.thirds;
      finalized = subst (IsFinalized (links_of made)) is (promised.final above_too);
      good = good;
      stands = at.is;
    }

-- ---- both sides

known_of : (genesis : PlainState) (blocks chain : List AcceptedBlock) (root : List ℕ) → AreOf blocks chain → IsOn genesis chain root → IsKnown genesis blocks root
known_of genesis blocks [] root are (inl e) = inl (sym e)
known_of genesis blocks [] root are (inr h) = absurd h
known_of genesis blocks (b ∷ chain) root are (inl e) = inr (subst (Contains (map (λ (k : AcceptedBlock). k.root) blocks)) e (image_of (λ (k : AcceptedBlock). k.root) blocks b (are b (first_of b chain))))
known_of genesis blocks (b ∷ chain) root are (inr h) = known_of genesis blocks chain root (λ c k. are c (later_of b chain c k)) h

grown : (genesis : PlainState) (blocks more chain : List AcceptedBlock) → AreOf more blocks → IsSound genesis blocks chain → IsSound genesis more chain
grown genesis blocks more chain grows sound = record { joined = sound.joined; listed = λ b h. grows b (sound.listed b h) }

epochs_in_order : (n low high : ℕ) → low ≤ high → low * n ≤ high * n
epochs_in_order n low high order = omega (arith, mul-le-mul_left {m = low} {n = high} n order, mul_comm low n, mul_comm high n)

-- a finalised block that lies on the other's chain is on the chain of the other finalised block
agreed : (config : ConfigValues) (genesis : PlainState) (all second : List AcceptedBlock) (root : List ℕ) (b : Checkpoint) → IsHistory config genesis second → AreOf all second → HaveOneContent all → NoneIsGenesis genesis all
    → (r : Ready genesis second b) → IsOn genesis (up_to r.chain (b.epoch * genesis.preset.slots_per_epoch)) root → IsOn genesis (chain_to second b.root) root
agreed config genesis all second root b history grows content none r h =
    let slot : ℕ = b.epoch * genesis.preset.slots_per_epoch in
    let part = grown genesis second all (up_to r.chain slot) grows (part_sound genesis second r.chain slot r.sound) in
    let known = known_of genesis second r.chain b.root r.sound.listed (subst (IsOn genesis r.chain) (sym r.stands) (top_on genesis r.chain slot)) in
    let whole = grown genesis second all (chain_to second b.root) grows (chain_sound config genesis second b.root history) in
    same_roots genesis all (up_to r.chain slot) (chain_to second b.root) content none part whole (sym r.stands ∙ sym (top_is genesis second b.root known)) root h

-- no vote that is slashable with another one is that one
unequal : (a b : AttestationData) → IsSlashable (link_of a) (link_of b) → a ≡ b → ⊥
unequal a b (inl double) same = double.1 (ap (λ (d : AttestationData). d.target) same)
unequal a b (inr (inl around)) same = let source = ap (λ (d : AttestationData). d.source.epoch) same in absurd (let less = around.0 in omega arith)
unequal a b (inr (inr around)) same = let source = ap (λ (d : AttestationData). d.source.epoch) same in absurd (let less = around.0 in omega arith)

more_votes : (one other votes : List Vote) (i : ℕ) (voted : AttestationData) → ((v : Vote) → IsOneOf v one → IsOneOf v votes) → VoteFor one i voted → VoteFor votes i voted
more_votes one other votes i voted within for = record { vote = for.vote; cast = within for.vote for.cast; by = for.by; content = for.content }

accountable_safety : (config : ConfigValues) (genesis : PlainState) (first second : List AcceptedBlock) (a b : Checkpoint) (a_root b_root : List ℕ) → AreHistories config genesis first second
    → IsConflict genesis first second a b → IsLarge genesis.preset.effective_balance_increment (genesis_weights genesis) → IsFinalizing genesis first a a_root → IsFinalizing genesis second b b_root
    → sum (genesis_weights genesis) ≤ 3 * balance_of genesis (offences_of genesis first second)
unfolding balance_of offences_of all_votes
accountable_safety config genesis first second a b a_root b_root are conflict large a_final b_final =
    let n : ℕ = genesis.preset.slots_per_epoch in
    let weights : List ℕ = genesis_weights genesis in
    let all : List AcceptedBlock = first ++ second in
    let x = ready config genesis first a a_root are.begins are.first_is large a_final conflict.first_above in
    let y = ready config genesis second b b_root are.begins are.second_is large b_final conflict.second_above in
    let ours : AreOf all first = λ c h. Contains-append_left first second c h in
    let theirs : AreOf all second = λ c h. Contains-append_right first second c h in
    let fa : Final genesis all a.root (a.epoch * n) = record { chain = x.chain; sound = grown genesis first all x.chain ours x.sound; stands = x.stands } in
    let fb : Final genesis all b.root (b.epoch * n) = record { chain = y.chain; sound = grown genesis second all y.chain theirs y.sound; stands = y.stands } in
    let apart : AreApart (min a.epoch b.epoch) (links_of x.made) (links_of y.made) = λ l k l_made k_made from same.
    let at : ℕ = l.target.epoch * n in
    let here : StandsOn genesis x.chain at l.target.root = targets_stand genesis (CarriedBy x.chain) (StandsOn genesis x.chain) x.made l x.good l_made in
    let there : StandsOn genesis y.chain at l.target.root = subst (λ (c : Checkpoint). StandsOn genesis y.chain (c.epoch * n) c.root) (sym same) (targets_stand genesis (CarriedBy y.chain) (StandsOn genesis y.chain) y.made k y.good k_made) in
    let shared : top_of genesis (up_to x.chain at) ≡ top_of genesis (up_to y.chain at) = sym here.is ∙ there.is in
    elim (cases_lt b.epoch a.epoch) [
      | inl later ↦ conflict.second_apart (on_chain genesis (chain_to first a.root) b.root (agreed config genesis all first b.root a are.first_is ours are.content are.others x
          (shared_is_agreed genesis all b.root a.root (b.epoch * n) (a.epoch * n) at are.content are.others fb fa (epochs_in_order n b.epoch a.epoch (omega arith)) (epochs_in_order n b.epoch l.target.epoch (omega arith)) (sym shared))))
      | inr order ↦ conflict.first_apart (on_chain genesis (chain_to second b.root) a.root (agreed config genesis all second a.root b are.second_is theirs are.content are.others y
          (shared_is_agreed genesis all a.root b.root (a.epoch * n) (b.epoch * n) at are.content are.others fa fb (epochs_in_order n a.epoch b.epoch (omega arith)) (epochs_in_order n a.epoch l.target.epoch (omega arith)) shared)))
    ] in
    let links = finals_conflict_proof genesis_checkpoint (links_of x.made) (links_of y.made) a b refl x.links y.links x.finalized y.finalized apart in
    let our_votes : List Vote = carried_votes genesis 0 first in
    let their_votes : List Vote = carried_votes genesis 1 second in
    let votes : List Vote = our_votes ++ their_votes in
    third_of_conflict weights x.made y.made x.thirds y.thirds links (among (map (λ (o : Offence). o.validator) (offences_below votes (length genesis.validators)))) (λ i c.
    let v = (all_of (IsGoodLink genesis (CarriedBy x.chain) (StandsOn genesis x.chain)) x.made c.a x.good c.a_made).voters i c.voted_a in
    let w = (all_of (IsGoodLink genesis (CarriedBy y.chain) (StandsOn genesis y.chain)) y.made c.b y.good c.b_made).voters i c.voted_b in
    let p = vote_for_link genesis 0 first x.chain c.a.link i x.sound.listed v in
    let q = vote_for_link genesis 1 second y.chain c.b.link i y.sound.listed w in
    let slashable : IsSlashable (link_of v.voted) (link_of w.voted) = subst (λ (k : Link). IsSlashable k (link_of w.voted)) (sym v.votes_for) (subst (λ (k : Link). IsSlashable c.a.link k) (sym w.votes_for) c.slashable) in
    among_offenders votes (length genesis.validators) i (active_is_low genesis i v.active)
    (offends votes i v.voted w.voted
    (more_votes our_votes their_votes votes i v.voted (λ k h. in_first k our_votes their_votes h) p)
    (more_votes their_votes our_votes votes i w.voted (λ k h. in_second k our_votes their_votes h) q)
    (slashable_data v.voted w.voted slashable) (unequal v.voted w.voted slashable)))

-- Where two histories conflict on a large genesis whose validators stay, three times the offenders' balance is at least the total
pub conflict_convicts : (config : ConfigValues) (genesis : PlainState) (first second : List AcceptedBlock) (a b : Checkpoint) → AreHistories config genesis first second → IsFinalOf genesis first a → IsFinalOf genesis second b
    → IsConflict genesis first second a b → IsLargeGenesis genesis → StaysSteady genesis first a → StaysSteady genesis second b → genesis_total genesis ≤ 3 * balance_of genesis (offences_of genesis first second)
unfolding genesis_total
conflict_convicts config genesis first second a b are a_final b_final conflict large a_stays b_stays =
    let ours = finalizes config genesis first a are.first_is
    (λ p q one other same. are.content p q (Contains-append_left first second p one) (Contains-append_left first second q other) same)
    (λ p one same. are.others p (Contains-append_left first second p one) same) conflict.first_above a_final in
    let theirs = finalizes config genesis second b are.second_is
    (λ p q one other same. are.content p q (Contains-append_right first second p one) (Contains-append_right first second q other) same)
    (λ p one same. are.others p (Contains-append_right first second p one) same) conflict.second_above b_final in
    let increment : ℕ = genesis.preset.effective_balance_increment in
    let all : ℕ = sum (genesis_weights genesis) in
    let enough : 2 * increment ≤ max increment all = large in
    let third = accountable_safety config genesis first second a b (finalizing_root first a) (finalizing_root second b) are conflict (omega arith)
    (record { finalizes = ours; steady = steady_chain genesis first a a_stays }) (record { finalizes = theirs; steady = steady_chain genesis second b b_stays }) in
    omega arith
