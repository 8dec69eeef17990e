-- What all slashings together make, and whether there is one.
use Rattle.std.proofs.Common.{◌≡◌, ◌∙◌, ℕ, Bool, false, List, refl, ap, rules}
use Rattle.bc_words.specs.Outcome.{Outcome, Stops, bind, done}
use Rattle.bc_words.specs.declared.stop.Stop.{Stop}
use Rattle.bc_words.proofs.Outcomes.{stops_bound}
use Rattle.bc_words.specs.declared.refusal.Refusal.TheVariants.{AsNone}
use Rattle.bc_preset.specs.declared.configuration.ConfigValues.{ConfigValues}
use Rattle.spec_state.specs.declared.plain.PlainState.{PlainState}
use Rattle.spec_blocks.specs.Checks.{check, each_of}
use Rattle.spec_blocks.specs.ProcessAttesterSlashing.{Slashed, in_both, slash_slashable}
use Rattle.block_operations.specs.inside.Slashed.{slashed, slash_in_both}
use Rattle.block_operations.proofs.process_attester_slashing.slash_in_both.Goals as goal

-- the check behind all slashings
abbrev ended : PlainState → Bool → Outcome PlainState
ended state slashed_any = bind (check slashed_any AsNone) (λ _. done state)

all_slashed : (state : PlainState) (first second : List ℕ) (proposer : ℕ) (config : ConfigValues) (all : Slashed) → each_of (slash_slashable proposer config) (slashed state false) (in_both first second) ≡ done all → slash_in_both state first second proposer config ≡ ended all.state all.slashed_any
unfolding slash_in_both
all_slashed state first second proposer config all is = ap (λ (o : Outcome Slashed). bind o (λ all. ended all.state all.slashed_any)) is

one_stops : (state : PlainState) (first second : List ℕ) (proposer : ℕ) (config : ConfigValues) (stop : Stop) → Stops stop (each_of (slash_slashable proposer config) (slashed state false) (in_both first second)) → Stops stop (slash_in_both state first second proposer config)
unfolding slash_in_both
one_stops state first second proposer config stop is =
    stops_bound stop (each_of (slash_slashable proposer config) (slashed state false) (in_both first second)) (λ all. ended all.state all.slashed_any) is

pub returns-in_err-slash_each : goal.returns-in_err-slash_each
returns-in_err-slash_each c =
    let stops = one_stops c.args.state.now c.args.first.now c.args.second.now c.args.proposer c.args.config.now _ (rw c.in_ok-next.ensures at c.in_err-slash_each.ensures) in
    search (rules, stops)

pub returns-then-not-slashed_any : goal.returns-then-not-slashed_any
returns-then-not-slashed_any c = (
  refl,
  all_slashed c.args.state.now c.args.first.now c.args.second.now c.args.proposer c.args.config.now _ (rw c.in_ok-next.ensures at c.in_ok-slash_each.ensures)
      ∙ ap (ended c.slash_each.new.state) c.if-not-slashed_any.true,
)

pub returns : goal.returns
returns c =
    all_slashed c.args.state.now c.args.first.now c.args.second.now c.args.proposer c.args.config.now _ (rw c.in_ok-next.ensures at c.in_ok-slash_each.ensures)
    ∙ ap (ended c.slash_each.new.state) c.if-not-slashed_any.false
