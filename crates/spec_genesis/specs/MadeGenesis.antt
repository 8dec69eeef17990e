-- What deposits make: how the published function ends, and what the state is and the file that it is written to.
use Rattle.std.specs.Prelude.{◌≡◌, ℕ, List, Option, Some, None, Result, Ok, Err}
use Rattle.bc_words.specs.declared.refusal.Refusal.TheVariants.{Overflow}
use Rattle.spec_state.specs.declared.plain.PlainState.{PlainState}
use Rattle.bc_preset.specs.declared.presets.Preset.{Preset}
use Rattle.spec_state.specs.Genesis.{genesis_fault, genesis_of}
use Rattle.spec_state.specs.Limits.{IsState, IsInRange}
use Rattle.spec_state.specs.Soundness.{IsSound}
use Rattle.spec_genesis.specs.declared.fault.DepositsFault.{DepositsFault}
use Rattle.spec_genesis.specs.InitializeBeaconStateFromEth1.{Initialized, made, refused_at, limited_at}

-- It is a genesis that the check accepts, within the limits of its preset, and sound, as the calls of the state transition
-- want it.
pub record IsGenesis (s : PlainState) : Type 0 where
  pub no_fault : genesis_fault s ≡ None
  pub is_state : IsState s
  pub in_range : IsInRange s
  pub sound : IsSound s

-- The making ends with a genesis where no deposit overflows, and else is refused at the first that does, whose amount doesn't
-- fit into the balance of its key. Nothing else stops it: each branch holds, and the registry has room.
abbrev pub EndsBy : Initialized → Option ℕ → Type 0
EndsBy (made state) None = IsGenesis state
EndsBy (made state) (Some first) = ⊥
EndsBy (refused_at index why) None = ⊥
EndsBy (refused_at index why) (Some first) = (index ≡ first) × (why ≡ Overflow)
EndsBy (limited_at index bound) overflow = ⊥

-- The bytes are a genesis file of the preset, and the state that they hold is sound.
abbrev pub HoldsGenesis : Preset → List ℕ → Type 0
HoldsGenesis preset bytes = (state : PlainState) × (genesis_of preset bytes ≡ Ok state) × IsGenesis state

-- What a file of deposits makes is a genesis file, where it has no fault.
abbrev pub MakesGenesis : Preset → Result (List ℕ) DepositsFault → Type 0
MakesGenesis preset (Ok bytes) = HoldsGenesis preset bytes
MakesGenesis preset (Err fault) = Unit {0}
