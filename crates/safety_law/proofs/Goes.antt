-- What the states of a history's chains say of links: which root stands at each slot of a chain, and what its blocks carried.
use Rattle.std.proofs.Common.{◌≡◌, ◌∙◌, ℕ, ◌<◌, ◌≤◌, ◌^◌, leb, if◌then◌else◌, List, [], ◌∷◌, refl, sym, ap, subst, arith}
use Rattle.std.specs.List.{AllByRecursion}
use Rattle.std.proofs.lemmas.Bool.{le-leb, lt-leb}
use Rattle.bc_preset.specs.declared.configuration.ConfigValues.{ConfigValues}
use Rattle.beacon_types.specs.Equality.{same_root}
use Rattle.beacon_types.specs.Blocks.{block_codec}
use Rattle.beacon_types.specs.declared.block.BeaconBlock.{BeaconBlock}
use Rattle.spec_state.specs.declared.plain.PlainState.{PlainState}
use Rattle.spec_transition.specs.ProcessSlots.{Stepped}
use Rattle.spec_forensics.specs.Steady.{IsSteadyAt}
use Rattle.spec_forensics.specs.Histories.{AcceptedBlock, chain_to, state_behind, IsStepOn, IsHistory}
use Rattle.vote_law.specs.Backed.{Votes, Adding}
use Rattle.vote_law.specs.Runs.{Places, Keeps, Goes}
use Rattle.vote_law.proofs.Genesis.{genesis_goes}
use Rattle.vote_law.proofs.RunsSlots.{transition_goes, transition_slot}
use Rattle.safety_law.specs.Histories.{Begins}
use Rattle.safety_law.proofs.Chains.{top_of, either_chain}

-- the part of a chain up to a slot
unfoldable pub up_to : List AcceptedBlock → ℕ → List AcceptedBlock
up_to [] slot = []
up_to (b ∷ chain) slot = if leb b.block.slot slot then b ∷ chain else up_to chain slot

-- at a slot stands the root of the latest block up to it
pub record StandsOn (genesis : PlainState) (chain : List AcceptedBlock) (slot : ℕ) (root : List ℕ) : Type 0 where
  pub is : root ≡ top_of genesis (up_to chain slot)

-- the votes that the blocks of a chain carried
abbrev pub CarriedBy : List AcceptedBlock → Votes
CarriedBy [] = λ voted attesters. ⊥
CarriedBy (b ∷ chain) = Adding (CarriedBy chain) b.block.body.attestations b.state

abbrev latest_slot : List AcceptedBlock → ℕ
latest_slot [] = 0
latest_slot (b ∷ chain) = b.block.slot

-- each state on which epoch processing was entered on a chain is steady
abbrev pub IsSteadyChain : PlainState → List AcceptedBlock → Type 0
IsSteadyChain genesis chain = AllByRecursion (λ b. AllByRecursion (IsSteadyAt genesis) b.entered) chain

-- what the state behind a chain says of its links, where the validators stay as they were at genesis
pub record ChainGoes (genesis : PlainState) (chain : List AcceptedBlock) : Type 0 where
  pub goes : IsSteadyChain genesis chain → Goes genesis (CarriedBy chain) (StandsOn genesis chain) (top_of genesis chain) (record { state = state_behind genesis chain; entered = [] })
  pub slot : (state_behind genesis chain).slot ≡ latest_slot chain

top_up : (chain : List AcceptedBlock) (slot : ℕ) → latest_slot chain ≤ slot → up_to chain slot ≡ chain
unfolding up_to
top_up [] slot less = refl
top_up (b ∷ chain) slot less = rw (le-leb b.block.slot slot less) refl

up_before : (b : AcceptedBlock) (chain : List AcceptedBlock) (slot : ℕ) → slot < b.block.slot → up_to (b ∷ chain) slot ≡ up_to chain slot
unfolding up_to
up_before b chain slot less = rw (lt-leb b.block.slot slot less) refl

-- one block more
block_goes : (config : ConfigValues) (genesis : PlainState) (earlier : List AcceptedBlock) (b : AcceptedBlock) → Begins genesis → IsStepOn config genesis earlier b → ChainGoes genesis (chain_to earlier b.block.parent_root)
    → ChainGoes genesis (b ∷ chain_to earlier b.block.parent_root)
block_goes config genesis earlier b begins step before =
    let chain : List AcceptedBlock = chain_to earlier b.block.parent_root in
    let s : PlainState = state_behind genesis chain in
    let t : Stepped = record { state = b.state; entered = b.entered } in
    let places : Places = StandsOn genesis (b ∷ chain) in
    let slot_is : step.signed.message.slot ≡ b.block.slot = ap (λ (k : BeaconBlock). k.slot) step.message in
    let keeps : Keeps (StandsOn genesis chain) places step.signed.message.slot =
    λ k root less stands. record { is = stands.is ∙ ap (top_of genesis) (sym (up_before b chain k (omega arith))) } in
    let here : (k : ℕ) → s.slot ≤ k → k < step.signed.message.slot → StandsOn genesis chain k (top_of genesis chain) =
    λ k from less. record { is = ap (top_of genesis) (sym (top_up chain k (let at = before.slot in omega arith))) } in
    let low : step.signed.message.slot < 2 ^ 64 = let fits = step.slot in omega arith in
    record {
      goes = λ steady.
          let next = transition_goes genesis (CarriedBy chain) (StandsOn genesis chain) places (top_of genesis chain) config s step.signed t step.step begins.bounds low step.state_root_is_set here keeps (before.goes steady.1) in
          let turned : Goes genesis (Adding (CarriedBy chain) b.block.body.attestations b.state) places (block_codec.hash_tree_root b.block) t =
          subst (λ (k : BeaconBlock). Goes genesis (Adding (CarriedBy chain) k.body.attestations b.state) places (block_codec.hash_tree_root k) t) step.message next.0 in
          record {
            backed = turned.backed;
            told = turned.told;
            header = turned.header ∙ sym step.root;
            filled = turned.filled;
            preset = turned.preset;
            run = λ none. turned.run steady.0;
          };
      slot = transition_slot config s step.signed t step.step ∙ slot_is;
    }

-- so do the states behind all chains of a history
pub chain_goes : (config : ConfigValues) (genesis : PlainState) (blocks : List AcceptedBlock) (root : List ℕ) → Begins genesis → IsHistory config genesis blocks → ChainGoes genesis (chain_to blocks root)
unfolding chain_to
chain_goes config genesis [] root g history = record {
  goes = λ steady. genesis_goes genesis (CarriedBy []) (StandsOn genesis []) g.bounds g.slot g.roots g.nothing g.previous g.current g.state_root_is_set;
  slot = g.slot;
}
chain_goes config genesis (b ∷ blocks) root g history =
    either_chain (ChainGoes genesis) (same_root b.root root) (b ∷ chain_to blocks b.block.parent_root) (chain_to blocks root)
    (block_goes config genesis blocks b g history.0 (chain_goes config genesis blocks b.block.parent_root g history.1))
    (chain_goes config genesis blocks root g history.1)
