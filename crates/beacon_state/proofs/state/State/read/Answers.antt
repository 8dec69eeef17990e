use Rattle.std.proofs.Common.{arith}
use Rattle.std.proofs.lemmas.Result.{err_from_is_err_and}
use Rattle.spec_state.specs.States.{state_codec}
use Rattle.spec_state.proofs.StateLaws.{state_lawful}
use Rattle.spec_state.proofs.Limits.{read_is_state, read_is_in_range}
use Rattle.spec_state.proofs.Writings.{read_has_writing}
use Rattle.beacon_state.proofs.Unread.{is_unread}
use Rattle.beacon_state.proofs.state.State.read.Goals as goal

pub returns-in_err-plain-clause-reads : goal.returns-in_err-plain-clause-reads
returns-in_err-plain-clause-reads c =
    let p = err_from_is_err_and c.from_residual.result c.from_residual.ensures.1 in
    rw (p.1, p.2) (is_unread (state_codec c.args.preset.now) (state_lawful c.args.preset.now) c.in_err-plain.field-0.0 c.args.bytes.now c.in_err-plain.ensures)

pub from_plain-requires-clause-state : goal.from_plain-requires-clause-state
from_plain-requires-clause-state c = read_is_state c.args.preset.now c.args.bytes.now c.in_ok-plain.plain c.requires (λ i. omega (arith, c.type_inv.bytes i)) c.in_ok-plain.ensures

pub from_plain-requires-clause-range : goal.from_plain-requires-clause-range
from_plain-requires-clause-range c = read_is_in_range c.args.preset.now c.args.bytes.now c.in_ok-plain.plain (λ i. omega (arith, c.type_inv.bytes i)) c.in_ok-plain.ensures

pub returns-in-Ok-clause-reads : goal.returns-in-Ok-clause-reads
returns-in-Ok-clause-reads c = rw c.in-Ok.ensures ((state_lawful c.args.preset.now).sound c.args.bytes.now c.in_ok-plain.plain (λ i. omega (arith, c.type_inv.bytes i)) c.in_ok-plain.ensures)

pub returns-in-Ok-clause-state : goal.returns-in-Ok-clause-state
returns-in-Ok-clause-state c = rw c.in-Ok.ensures (read_is_state c.args.preset.now c.args.bytes.now c.in_ok-plain.plain c.requires (λ i. omega (arith, c.type_inv.bytes i)) c.in_ok-plain.ensures)

pub returns-in-Ok-clause-range : goal.returns-in-Ok-clause-range
returns-in-Ok-clause-range c = rw c.in-Ok.ensures (read_is_in_range c.args.preset.now c.args.bytes.now c.in_ok-plain.plain (λ i. omega (arith, c.type_inv.bytes i)) c.in_ok-plain.ensures)

pub returns-in-Ok-clause-written : goal.returns-in-Ok-clause-written
returns-in-Ok-clause-written c = rw c.in-Ok.ensures (read_has_writing c.args.preset.now c.args.bytes.now c.in_ok-plain.plain (λ i. omega (arith, c.type_inv.bytes i)) c.in_ok-plain.ensures)
