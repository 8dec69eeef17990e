-- A made block: the maker makes it, or meets the proposer's limit, and the transition takes it.
use Rattle.std.proofs.Common.{◌≡◌, ◌∙◌, ℕ, ◌+◌, ◌-◌, ◌*◌, ◌/◌, ◌%◌, ◌<◌, ◌≤◌, true, ◌==◌, not, nat_lt, List, [], ◌∷◌, ◌++◌, length, replicate, refl, sym, ap, subst, inl, inr, arith, length-append}
use Rattle.spec_drill.specs.Plan.{Plan}
use Rattle.spec_drill.specs.MakeGenesis.{zero_eth1}
use Rattle.spec_drill.specs.MakeVotes.{votes_of}
use Rattle.spec_drill.specs.MakeBlock.{MadeBlock, body_of, unrooted, make_block}
use Rattle.spec_blocks.specs.Gives.{Gives}
use Rattle.spec_drill.specs.inside.Calm.{IsFull, IsFullRegistry, IsNear, IsCalm}
use Rattle.std.specs.List.{AllByRecursion}
use Rattle.std.specs.Cmp.{unsigned_Decides}
use Rattle.std.specs.Cmp.Lexicographic.{pointwise_decides}
use Rattle.std.proofs.lemmas.Bool.{eq-eqb}
use Rattle.std.proofs.Math.Nat.{div-le_self, mod-lt}
use Rattle.ssz_codec.specs.Basic.{bytes32}
use Rattle.bc_words.specs.Outcome.{Outcome, done, limited, bind, checked_sub, checked_push}
use Rattle.bc_words.specs.declared.stop.Limit.TheVariants.{Proposer}
use Rattle.bc_words.specs.declared.refusal.Refusal.TheVariants.{WrongProposer, ProposerSlashed, DepositCount, StateRoot}
use Rattle.bc_preset.specs.Presets.{IsPreset}
use Rattle.bc_preset.specs.declared.presets.Preset.{Preset}
use Rattle.bc_preset.specs.declared.configuration.ConfigValues.{ConfigValues}
use Rattle.bc_preset.proofs.Bounds.{preset_bounds}
use Rattle.beacon_types.specs.Equality.{same_root}
use Rattle.beacon_types.specs.declared.eth1_data.Eth1Data.{Eth1Data}
use Rattle.beacon_types.specs.declared.attestation.Attestation.{Attestation}
use Rattle.beacon_types.specs.declared.block.BeaconBlock.{BeaconBlock}
use Rattle.beacon_types.specs.declared.body.BeaconBlockBody.{BeaconBlockBody}
use Rattle.spec_state.specs.declared.plain.PlainState.{PlainState}
use Rattle.spec_state.specs.States.{state_codec, votes_limit}
use Rattle.spec_state.specs.Soundness.{IsSound}
use Rattle.spec_state.specs.Constants.{far_future_epoch}
use Rattle.spec_state.specs.Accessors.{get_current_epoch, get_beacon_proposer_index}
use Rattle.spec_blocks.specs.Checks.{check, item_at, each_of}
use Rattle.spec_blocks.specs.ProcessBlockHeader.{process_block_header, header_of}
use Rattle.spec_blocks.specs.ProcessRandao.{process_randao}
use Rattle.spec_blocks.specs.ProcessEth1Data.{process_eth1_data, count_votes}
use Rattle.spec_blocks.specs.ProcessOperations.{process_operations, check_deposit_count}
use Rattle.spec_blocks.specs.ProcessAttestation.{process_attestation}
use Rattle.spec_blocks.specs.ProcessBlock.{process_block}
use Rattle.spec_blocks.proofs.SoundBlock.{block_sound}
use Rattle.spec_transition.specs.ProcessSlots.{Stepped, process_slots}
use Rattle.spec_transition.specs.StateTransition.{state_transition}
use Rattle.spec_blocks.proofs.Gives.{gives_done, gives_then, gives_if, gives_more, gives_is, is_gives, check_gives, sub_gives, push_gives, item_gives}
use Rattle.spec_drill.proofs.Epoch.{full_stays, epoch_stays}
use Rattle.spec_drill.proofs.Slots.{few_slots}
use Rattle.spec_drill.proofs.Proposer.{GivesOrLimit, proposer_gives}
use Rattle.beacon_types.specs.Blocks.{signed_block_codec}
use Rattle.spec_drill.proofs.Bytes.{state_root_within}
use Rattle.spec_drill.proofs.Written.{AreSmallVotes, block_within}
use Rattle.spec_drill.proofs.Voting.{IsVoting, IsBefore, all_votes_give}

pub root_is_same : (a b : List ℕ) → a ≡ b → same_root a b ≡ true
root_is_same a b e = (pointwise_decides unsigned_Decides a b).1 e

-- ---- the parts of a block

header_gives : (s : PlainState) (block : BeaconBlock) (proposer : ℕ) → IsFullRegistry s → block.proposer_index ≡ proposer → proposer < 64 → process_block_header s block proposer ≡ done (record s { latest_block_header = header_of block })
unfolding process_block_header
header_gives s block proposer full is less =
    let t : PlainState = record s { latest_block_header = header_of block } in
    let many = full.many in
    gives_is t _
    (gives_then (λ u. u ≡ tt) (λ x. x ≡ t) (check (block.proposer_index == proposer) WrongProposer) _ (is_gives tt _ (check_gives _ WrongProposer (eq-eqb _ _ is))) (λ u h.
    gives_then IsFull (λ x. x ≡ t) (item_at s.validators block.proposer_index) _ (item_gives IsFull s.validators block.proposer_index full.all (omega arith)) (λ v v_full.
    gives_then (λ u. u ≡ tt) (λ x. x ≡ t) (check (not v.slashed) ProposerSlashed) _ (is_gives tt _ (check_gives _ ProposerSlashed (ap not v_full.slashed))) (λ u h.
    gives_done (λ x. x ≡ t) t refl))))

-- the votes' state begins behind the header and the mix
begins_voting : (s : PlainState) (block : BeaconBlock) → IsCalm 0 s → IsVoting s 0 (process_randao (record s { latest_block_header = header_of block }) block.body)
unfolding process_randao
begins_voting s block calm =
    let v = calm.roomy.votes in let p = calm.roomy.previous in let c = calm.roomy.current in
    record {
      preset = refl;
      slot = refl;
      validators = refl;
      balances = refl;
      slashings = refl;
      eth1 = calm.quiet.eth1;
      index = calm.quiet.index;
      current_justified = refl;
      previous_justified = refl;
      eth1_votes = omega arith;
      historical = calm.roomy.historical;
      previous = omega arith;
      current = omega arith;
    }

votes_some : (p : Preset) → IsPreset p → 0 < votes_limit p
unfolding IsPreset
votes_some p (inl e) = subst (λ (p : Preset). 0 < votes_limit p) (sym e) (omega arith)
votes_some p (inr e) = subst (λ (p : Preset). 0 < votes_limit p) (sym e) (omega arith)

eth1_gives : (s x : PlainState) (body : BeaconBlockBody) → IsPreset s.preset → IsVoting s 0 x → length x.eth1_data_votes ≤ s.slot % votes_limit s.preset → body.eth1_data ≡ zero_eth1 → Gives (IsVoting s 0) (process_eth1_data x body)
unfolding process_eth1_data
eth1_gives s x body preset v few none =
    let bounds = preset_bounds s.preset preset in
    let n : ℕ = votes_limit s.preset in
    let limit : votes_limit x.preset ≡ n = ap votes_limit v.preset in
    let place : s.slot % n < n = mod-lt s.slot (votes_some s.preset preset) in
    let voting : (votes : List Eth1Data) (voted : Eth1Data) → length votes ≤ s.slot % n + 1 → voted ≡ zero_eth1 → IsVoting s 0 (record x { eth1_data_votes = votes; eth1_data = voted }) = λ votes voted low none. record { preset = v.preset; slot = v.slot; validators = v.validators; balances = v.balances; slashings = v.slashings; eth1 = none; index = v.index; current_justified = v.current_justified; previous_justified = v.previous_justified; eth1_votes = low; historical = v.historical; previous = v.previous; current = v.current } in
    gives_then (λ ys. ys ≡ x.eth1_data_votes ++ body.eth1_data ∷ []) (IsVoting s 0) (checked_push (votes_limit x.preset) x.eth1_data_votes body.eth1_data) _ (is_gives _ _ (push_gives (votes_limit x.preset) x.eth1_data_votes body.eth1_data (omega arith))) (λ votes is.
    let many = ap length is ∙ length-append x.eth1_data_votes (body.eth1_data ∷ []) in
    gives_if (IsVoting s 0) (nat_lt (votes_limit x.preset) (count_votes votes body.eth1_data * 2)) _ _
    (λ h. gives_done (IsVoting s 0) (record x { eth1_data_votes = votes; eth1_data = body.eth1_data }) (voting votes body.eth1_data (omega arith) none))
    (λ h. gives_done (IsVoting s 0) (record x { eth1_data_votes = votes }) (voting votes x.eth1_data (omega arith) v.eth1)))

-- no deposit is due
deposits_gives : (x : PlainState) (body : BeaconBlockBody) → x.eth1_data.deposit_count ≡ 0 → x.eth1_deposit_index ≡ 0 → body.deposits ≡ [] → check_deposit_count x body ≡ done tt
unfolding check_deposit_count
deposits_gives x body count index none =
    gives_is tt _
    (gives_then (λ d. d ≡ x.eth1_data.deposit_count - x.eth1_deposit_index) (λ u. u ≡ tt) (checked_sub x.eth1_data.deposit_count x.eth1_deposit_index) _ (sub_gives x.eth1_data.deposit_count x.eth1_deposit_index (omega arith)) (λ due is.
    let zero_due : due ≡ 0 = omega arith in
    let zero_len : length body.deposits ≡ 0 = ap length none in
    is_gives tt _ (check_gives _ DepositCount (eq-eqb _ _ (omega arith)))))

nothing_done : {A S : Type 0} (step : S → A → Outcome S) (s : S) → each_of step s [] ≡ done s
unfolding each_of
nothing_done step s = refl

-- what a made block's body is, as far as it matters
pub record IsPlain (votes : List Attestation) (body : BeaconBlockBody) : Type 0 where
  pub eth1 : body.eth1_data ≡ zero_eth1
  pub proposer_slashings : body.proposer_slashings ≡ []
  pub attester_slashings : body.attester_slashings ≡ []
  pub attestations : body.attestations ≡ votes
  pub deposits : body.deposits ≡ []
  pub voluntary_exits : body.voluntary_exits ≡ []

none_of : {A S : Type 0} (step : S → A → Outcome S) (s : S) (xs : List A) → xs ≡ [] → each_of step s xs ≡ done s
none_of step s xs e = ap (each_of step s) e ∙ nothing_done step s

operations_give : (s x : PlainState) (root : List ℕ) (slot proposer : ℕ) (body : BeaconBlockBody) (config : ConfigValues) → IsBefore s slot → IsVoting s 0 x → IsPlain (votes_of s root slot) body → Gives (IsVoting s 4) (process_operations x body proposer config)
unfolding process_operations
operations_give s x root slot proposer body config b v plain =
    gives_then (λ u. u ≡ tt) (IsVoting s 4) (check_deposit_count x body) _ (is_gives tt _ (deposits_gives x body (ap (λ (d : Eth1Data). d.deposit_count) v.eth1) v.index plain.deposits)) (λ u h.
    gives_then (λ y. y ≡ x) (IsVoting s 4) (each_of _ x body.proposer_slashings) _ (is_gives x _ (none_of _ x body.proposer_slashings plain.proposer_slashings)) (λ y y_is.
    gives_then (λ z. z ≡ x) (IsVoting s 4) (each_of _ y body.attester_slashings) _ (is_gives x _ (none_of _ y body.attester_slashings plain.attester_slashings ∙ ap done y_is)) (λ z z_is.
    gives_then (IsVoting s 4) (IsVoting s 4) (each_of (λ s operation. process_attestation s operation proposer) z body.attestations) _
    (subst (λ (w : PlainState). Gives (IsVoting s 4) (each_of (λ s operation. process_attestation s operation proposer) w body.attestations)) (sym z_is)
    (subst (λ (vs : List Attestation). Gives (IsVoting s 4) (each_of (λ s operation. process_attestation s operation proposer) x vs)) (sym plain.attestations) (all_votes_give s root slot b proposer x v))) (λ w w_voting.
    gives_then (λ q. q ≡ w) (IsVoting s 4) (each_of _ w body.deposits) _ (is_gives w _ (none_of _ w body.deposits plain.deposits)) (λ q q_is.
    gives_more (λ r. r ≡ w) (IsVoting s 4) (each_of _ q body.voluntary_exits) (λ r r_is. subst (IsVoting s 4) (sym r_is) w_voting) (is_gives w _ (none_of _ q body.voluntary_exits plain.voluntary_exits ∙ ap done q_is)))))))

before_of : (s : PlainState) (slot : ℕ) → IsCalm 0 s → s.slot ≡ slot + 1 → IsBefore s slot
before_of s slot calm next = record { next = next; preset = calm.preset; full = calm.registry; early = few_slots s.preset s.slot calm.preset calm.early }

votes_kept : (s : PlainState) (block : BeaconBlock) → (process_randao (record s { latest_block_header = header_of block }) block.body).eth1_data_votes ≡ s.eth1_data_votes
unfolding process_randao
votes_kept s block = refl

block_voting : (s : PlainState) (root : List ℕ) (slot proposer : ℕ) (block : BeaconBlock) (config : ConfigValues) → IsCalm 0 s → s.slot ≡ slot + 1 → get_beacon_proposer_index s ≡ done proposer → proposer < 64
    → block.proposer_index ≡ proposer → IsPlain (votes_of s root slot) block.body → Gives (IsVoting s 4) (process_block s block config)
unfolding process_block
block_voting s root slot proposer block config calm next is less index plain =
    let with_header : PlainState = record s { latest_block_header = header_of block } in
    let x : PlainState = process_randao with_header block.body in
    let few : length x.eth1_data_votes ≤ s.slot % votes_limit s.preset = let e = ap (λ (ys : List Eth1Data). length ys) (votes_kept s block) in let v = calm.roomy.votes in omega arith in
    gives_then (λ p. p ≡ proposer) (IsVoting s 4) (get_beacon_proposer_index s) _ (is_gives proposer _ is) (λ p p_is.
    gives_then (λ y. y ≡ with_header) (IsVoting s 4) (process_block_header s block p) _ (is_gives with_header _ (ap (process_block_header s block) p_is ∙ header_gives s block proposer calm.registry index less)) (λ y y_is.
    gives_then (IsVoting s 0) (IsVoting s 4) (process_eth1_data (process_randao y block.body) block.body) _
    (subst (λ (z : PlainState). Gives (IsVoting s 0) (process_eth1_data (process_randao z block.body) block.body)) (sym y_is) (eth1_gives s x block.body calm.preset (begins_voting s block calm) few plain.eth1)) (λ z z_voting.
    operations_give s z root slot p block.body config (before_of s slot calm next) z_voting plain)))

-- process_block
pub block_gives : (s : PlainState) (root : List ℕ) (slot proposer : ℕ) (block : BeaconBlock) (config : ConfigValues) → IsCalm 0 s → s.slot ≡ slot + 1 → get_beacon_proposer_index s ≡ done proposer → proposer < 64
    → block.proposer_index ≡ proposer → block.slot ≡ s.slot → IsPlain (votes_of s root slot) block.body
    → Gives (λ t. IsVoting s 4 t × IsSound t) (process_block s block config)
block_gives s root slot proposer block config calm next is less index at plain =
    let few = few_slots s.preset s.slot calm.preset calm.early in
    let g = block_voting s root slot proposer block config calm next is less index plain in
    let low : s.slot / s.preset.slots_per_epoch < far_future_epoch = let d = div-le_self s.slot s.preset.slots_per_epoch in omega arith in
    record { value = g.value; is = g.is; holds = (g.holds, block_sound s g.value block config g.is at (preset_bounds s.preset calm.preset) low calm.sound) }

-- a state behind the block is calm
pub block_calm : (s t : PlainState) → IsCalm 0 s → IsVoting s 4 t → IsSound t → IsCalm 1 t
unfolding get_current_epoch
block_calm s t calm v sound =
    let at : t.slot / t.preset.slots_per_epoch ≡ s.slot / s.preset.slots_per_epoch = epoch_stays s t v.preset v.slot in
    let place : t.slot % t.preset.slots_per_epoch ≡ s.slot % s.preset.slots_per_epoch = ap (λ (k : ℕ). k % t.preset.slots_per_epoch) v.slot ∙ ap (λ (p : Preset). s.slot % p.slots_per_epoch) v.preset in
    let vote_place : t.slot % votes_limit t.preset ≡ s.slot % votes_limit s.preset = ap (λ (k : ℕ). k % votes_limit t.preset) v.slot ∙ ap (λ (p : Preset). s.slot % votes_limit p) v.preset in
    let size : t.preset.slots_per_epoch ≡ s.preset.slots_per_epoch = ap (λ (p : Preset). p.slots_per_epoch) v.preset in
    let early = calm.early in let t_slot = v.slot in
    let vv = v.eth1_votes in let vh = v.historical in let vp = v.previous in let vc = v.current in
    record {
      preset = subst IsPreset (sym v.preset) calm.preset;
      sound = sound;
      early = subst (λ (k : ℕ). t.slot ≤ 32 * k) (sym size) (omega arith);
      registry = full_stays s t v.validators calm.registry;
      balances = record { many = ap length v.balances ∙ calm.balances.many; all = subst (λ (e : ℕ). AllByRecursion (IsNear e) t.balances) (sym at) (subst (AllByRecursion (IsNear (s.slot / s.preset.slots_per_epoch))) (sym v.balances) calm.balances.all) };
      roomy = record { votes = omega arith; previous = omega arith; current = omega arith; historical = omega arith };
      quiet = record { eth1 = v.eth1; index = v.index; slashings = subst (AllByRecursion (λ n. n ≡ 0)) (sym v.slashings) calm.quiet.slashings };
    }

-- ---- make_block

-- a block that the maker made on a state of its slot
pub record IsMade (s : PlainState) (root : List ℕ) (votes : List Attestation) (config : ConfigValues) (m : MadeBlock) : Type 0 where
  pub processed : process_block s m.block.message config ≡ done m.state
  pub state_root : m.block.message.state_root ≡ (state_codec m.state.preset).hash_tree_root m.state
  pub slot : m.block.message.slot ≡ s.slot
  pub parent : m.block.message.parent_root ≡ root
  pub attestations : m.block.message.body.attestations ≡ votes
  pub calm : IsCalm 1 m.state
  pub at : m.state.slot ≡ s.slot
  pub preset : m.state.preset ≡ s.preset
  pub written : bytes32.Within root → AreSmallVotes votes → signed_block_codec.Within m.block

-- the state root isn't read
rootless : (s : PlainState) (block : BeaconBlock) (state_root : List ℕ) (config : ConfigValues) → process_block s (record block { state_root = state_root }) config ≡ process_block s block config
unfolding process_block process_block_header
rootless s block state_root config = refl

plain_body : (plan : Plan) (s : PlainState) (votes : List Attestation) → IsPlain votes (body_of plan s votes)
unfolding body_of
plain_body plan s votes = record { eth1 = refl; proposer_slashings = refl; attester_slashings = refl; attestations = refl; deposits = refl; voluntary_exits = refl }

limited_first : {A B : Type 0} (o : Outcome A) (next : A → Outcome B) → o ≡ limited Proposer → bind o next ≡ limited Proposer
limited_first o next e = ap (λ o. bind o next) e

made_gives : (plan : Plan) (s : PlainState) (root : List ℕ) (slot : ℕ) → IsCalm 0 s → s.slot ≡ slot + 1 → Gives (λ i. i < 64) (get_beacon_proposer_index s)
    → Gives (IsMade s root (votes_of s root slot) plan.config) (make_block plan s root (votes_of s root slot))
unfolding make_block unrooted body_of
made_gives plan s root slot calm next g =
    let votes : List Attestation = votes_of s root slot in
    let Goal : MadeBlock → Type 0 = IsMade s root votes plan.config in
    gives_then (λ p. p ≡ g.value) Goal (get_beacon_proposer_index s) _ (is_gives g.value _ g.is) (λ p p_is.
    let block : BeaconBlock = unrooted plan s root votes p in
    let there : get_beacon_proposer_index s ≡ done p = g.is ∙ ap done (sym p_is) in
    let less : p < 64 = let h = g.holds in omega arith in
    let b = block_gives s root slot p block plan.config calm next there less refl refl (plain_body plan s votes) in
    gives_then (λ t. t ≡ b.value) Goal (process_block s block plan.config) _ (is_gives b.value _ b.is) (λ t t_is.
    let state_root : List ℕ = (state_codec t.preset).hash_tree_root t in
    let h : IsVoting s 4 t × IsSound t = subst (λ (t : PlainState). IsVoting s 4 t × IsSound t) (sym t_is) b.holds in
    gives_done Goal (record { block = record { message = record block { state_root = state_root }; signature = replicate 96 0 }; state = t })
    (record { processed = rootless s block state_root plan.config ∙ (b.is ∙ ap done (sym t_is)); state_root = refl; slot = refl; parent = refl; attestations = refl; calm = block_calm s t calm h.0 h.1; at = h.0.slot; preset = h.0.preset; written = λ parent small. block_within plan s root state_root votes p (few_slots s.preset s.slot calm.preset calm.early) less parent (state_root_within t.preset t) small })))

low_of : (s : PlainState) → s.slot ≤ 1024 → get_current_epoch s < far_future_epoch
unfolding get_current_epoch
low_of s few = let d = div-le_self s.slot s.preset.slots_per_epoch in omega arith

-- the maker makes the block, or the proposer's limit comes
pub make_gives : (plan : Plan) (s : PlainState) (root : List ℕ) (slot : ℕ) → IsCalm 0 s → s.slot ≡ slot + 1 → GivesOrLimit (IsMade s root (votes_of s root slot) plan.config) (make_block plan s root (votes_of s root slot))
unfolding make_block
make_gives plan s root slot calm next =
    let few = few_slots s.preset s.slot calm.preset calm.early in
    let low : get_current_epoch s < far_future_epoch = low_of s (omega arith) in
    elim (proposer_gives s (preset_bounds s.preset calm.preset) calm.registry low).either [
      | inl g ↦ record { either = inl (made_gives plan s root slot calm next g) }
      | inr no_proposer ↦ record { either = inr (limited_first (get_beacon_proposer_index s) _ no_proposer) }
    ]

-- the transition takes it, from a state whose slots lead to that of the block
pub made_is_taken : (config : ConfigValues) (state : PlainState) (at : Stepped) (root : List ℕ) (votes : List Attestation) (m : MadeBlock) → process_slots state at.state.slot config ≡ done at → IsMade at.state root votes config m
    → state_transition state m.block config ≡ done (record at { state = m.state })
unfolding state_transition
made_is_taken config state at root votes m slots made =
    let Goal : Stepped → Type 0 = λ x. x ≡ record at { state = m.state } in
    gives_is (record at { state = m.state }) _
    (gives_then (λ x. x ≡ at) Goal (process_slots state m.block.message.slot config) _ (is_gives at _ (ap (λ n. process_slots state n config) made.slot ∙ slots)) (λ x x_is.
    gives_then (λ t. t ≡ m.state) Goal (process_block x.state m.block.message config) _ (is_gives m.state _ (ap (λ (x : Stepped). process_block x.state m.block.message config) x_is ∙ made.processed)) (λ t t_is.
    gives_then (λ u. u ≡ tt) Goal (check (same_root m.block.message.state_root ((state_codec t.preset).hash_tree_root t)) StateRoot) _ (is_gives tt _ (check_gives _ StateRoot (root_is_same _ _ (made.state_root ∙ ap (λ (t : PlainState). (state_codec t.preset).hash_tree_root t) (sym t_is))))) (λ u h.
    gives_done Goal (record x { state = t }) (ap (λ (x : Stepped). record x { state = t }) x_is ∙ ap (λ (t : PlainState). record at { state = t }) t_is)))))
