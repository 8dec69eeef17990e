use Rattle.std.proofs.Common.{inl, inr, sym, arith}
use Rattle.genesis_maker.proofs.Readings.{unread, whole}
use Rattle.genesis_maker.proofs.deposits.Deposits.of.Goals as goal
use Rattle.genesis_maker.proofs.deposits.Deposits.of.Goals.{then-bytes-ne0-via-then-bytes-ne0, then-bytes-ne0-via-else-bytes-ne0+then-count-gt-MAX_DEPOSITS}

pub returns-then-bytes-ne0 : goal.returns-then-bytes-ne0
returns-then-bytes-ne0 c = elim c.then-bytes-ne0.branch [
  | then-bytes-ne0-via-then-bytes-ne0 w ↦ sym (unread c.args.bytes.now (λ i. omega (arith, c.type_inv.bytes i)) (inl w.if-bytes-ne0.true))
  | then-bytes-ne0-via-else-bytes-ne0+then-count-gt-MAX_DEPOSITS w ↦ sym (unread c.args.bytes.now (λ i. omega (arith, c.type_inv.bytes i)) (inr w.if-count-gt-MAX_DEPOSITS.true))
]

pub invariant_of-result : goal.invariant_of-result
invariant_of-result c = whole c.args.bytes.now (λ i. omega (arith, c.type_inv.bytes i)) c.if-bytes-ne0.false c.if-count-gt-MAX_DEPOSITS.false

pub returns : goal.returns
returns c = sym (whole c.args.bytes.now (λ i. omega (arith, c.type_inv.bytes i)) c.if-bytes-ne0.false c.if-count-gt-MAX_DEPOSITS.false).reads
