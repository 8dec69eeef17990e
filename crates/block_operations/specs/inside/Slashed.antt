-- A state on the way through an attester slashing.
use Rattle.std.specs.Prelude.{ℕ, Bool, false, List}
use Rattle.bc_words.specs.Outcome.{Outcome, done, ◌>>=◌}
use Rattle.bc_words.specs.declared.refusal.Refusal.TheVariants.{AsNone}
use Rattle.bc_preset.specs.declared.configuration.ConfigValues.{ConfigValues}
use Rattle.spec_state.specs.declared.plain.PlainState.{PlainState}
use Rattle.spec_blocks.specs.Checks.{check, each_of, ◌>>◌}
use Rattle.spec_blocks.specs.ProcessAttesterSlashing.{Slashed, in_both, slash_slashable}

-- a state, and whether a validator was slashed on the way to it
abbrev pub slashed : PlainState → Bool → Slashed
slashed state slashed_any = record { state = state; slashed_any = slashed_any }

-- the validators with indices in both lists are slashed where they are slashable, and there is one
unfoldable pub slash_in_both : PlainState → List ℕ → List ℕ → ℕ → ConfigValues → Outcome PlainState
slash_in_both state indices_1 indices_2 proposer config = do
  all ← each_of (slash_slashable proposer config) (slashed state false) (in_both indices_1 indices_2)
  check all.slashed_any AsNone
  done all.state
