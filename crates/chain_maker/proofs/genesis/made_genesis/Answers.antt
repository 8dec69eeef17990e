-- The fields are within the limits of a state, and the check finds no fault.
use Rattle.std.proofs.Common.{◌≡◌, None, sym, subst}
use Rattle.spec_state.specs.declared.plain.PlainState.{PlainState}
use Rattle.spec_state.specs.Limits.{IsState, IsInRange}
use Rattle.spec_state.specs.Genesis.{genesis_fault}
use Rattle.spec_drill.proofs.Genesis.{made_genesis_passes}
use Rattle.spec_drill.proofs.GenesisRange.{made_genesis_is_state, made_genesis_in_range}
use Rattle.chain_maker.proofs.Steps.{still_passes}
use Rattle.chain_maker.proofs.genesis.made_genesis.Goals as goal

pub from_plain-requires-clause-state : goal.from_plain-requires-clause-state
from_plain-requires-clause-state c = subst IsState (sym c.in_ok-plain.ensures) (made_genesis_is_state c.args.preset.now c.args.number c.requires)

pub from_plain-requires-clause-range : goal.from_plain-requires-clause-range
from_plain-requires-clause-range c = subst IsInRange (sym c.in_ok-plain.ensures) (made_genesis_in_range c.args.preset.now c.args.number)

pub returns-clause-passes : goal.returns-clause-passes
returns-clause-passes c =
    still_passes c.from_plain.result c.in_ok-plain.plain c.from_plain.ensures
    (subst (λ (s : PlainState). genesis_fault s ≡ None) (sym c.in_ok-plain.ensures) (made_genesis_passes c.args.preset.now c.args.number c.requires))
