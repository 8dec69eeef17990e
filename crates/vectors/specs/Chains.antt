-- A book with the end of the chain that the latest block of one of its histories ends.
use Rattle.std.specs.Prelude.{◌≡◌, ◌⊎◌, ℕ, ◌<◌, List, [], map, Contains, Result, Ok, Err}
use Rattle.bc_words.specs.Outcome.{Outcome, done, Stops}
use Rattle.bc_words.specs.declared.stop.Stop.{Stop}
use Rattle.spec_state.specs.declared.plain.PlainState.{PlainState}
use Rattle.spec_state.specs.Accessors.{get_total_active_balance}
use Rattle.spec_state.specs.Genesis.{header_root_of}
use Rattle.spec_state.specs.Soundness.{IsSound}
use Rattle.spec_transition.specs.ProcessSlots.{Stepped}
use Rattle.spec_forensics.specs.Histories.{chain_to, state_behind}
use Rattle.forensics.specs.Books.{PlainBook, history_of}

-- the root and the state of the end, which the next block of the history with this number is on
pub record PlainChain : Type 0 where
  pub book : PlainBook
  pub which : ℕ
  pub root : List ℕ
  pub state : PlainState

-- The state is the one behind the chain of the root, which is that of genesis or of a block of the history
pub record IsChain (chain : PlainChain) : Type 0 where
  pub which : chain.which < 2
  pub order : chain.which ≡ 0 → chain.book.second ≡ []
  pub sound : IsSound chain.state
  pub genesis_sound : IsSound chain.book.genesis
  pub behind : state_behind chain.book.genesis (chain_to (history_of chain.book chain.which) chain.root) ≡ chain.state
  pub known : (chain.root ≡ header_root_of chain.book.genesis) ⊎ Contains (map (λ e. e.root) (history_of chain.book chain.which)) chain.root

-- the total active balance of a state fits in a uint64
pub record HasTotal (state : PlainState) : Type 0 where
  pub total : ℕ
  pub is : get_total_active_balance state ≡ done total

-- The answer of a step: a state, where the states entered on the way to it are these, or why it stops
abbrev pub Reaches : Result PlainState Stop → List PlainState → Outcome Stepped → Type 0
Reaches (Ok state) entered outcome = outcome ≡ done (record { state = state; entered = entered })
Reaches (Err stop) entered outcome = Stops stop outcome
