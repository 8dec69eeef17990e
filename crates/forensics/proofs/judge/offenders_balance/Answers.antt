use Rattle.std.proofs.Common.{arith}
use Rattle.forensics.proofs.Offenders.{step_at, step_fits, step_more, step_others}
use Rattle.forensics.proofs.judge.offenders_balance.Goals as goal

pub overflow_add-balance : goal.overflow_add-balance
overflow_add-balance c = let h = step_fits c.args.genesis.now c.args.votes.now c.loop-index.balance c.loop-index.index-iterator.count c.next.new.self.count c.in-Some.index c.loop-index.index-iterator.iter c.next.new.self.iter c.in-Some.validator c.in-Some.ensures.steps c.loop-index.invariant.sum c.requires.beginning c.counts.result c.counts.ensures c.if-counts.true in let e = c.effective_balance-balance.ensures in omega arith

pub loop-index-preserved-then-counts : goal.loop-index-preserved-then-counts
loop-index-preserved-then-counts c = record {
  at = step_at c.args.genesis.now c.args.votes.now c.loop-index.balance c.loop-index.index-iterator.count c.next.new.self.count c.in-Some.index c.loop-index.index-iterator.iter c.next.new.self.iter c.in-Some.validator c.in-Some.ensures.steps c.loop-index.invariant.sum c.loop-index.invariant.at;
  sum = let more = step_more c.args.genesis.now c.args.votes.now c.loop-index.balance c.loop-index.index-iterator.count c.next.new.self.count c.in-Some.index c.loop-index.index-iterator.iter c.next.new.self.iter c.in-Some.validator c.in-Some.ensures.steps c.loop-index.invariant.sum c.counts.result c.counts.ensures c.if-counts.true in let e = c.effective_balance-balance.ensures in omega arith;
}

pub loop-index-preserved : goal.loop-index-preserved
loop-index-preserved c = record {
  at = step_at c.args.genesis.now c.args.votes.now c.loop-index.balance c.loop-index.index-iterator.count c.next.new.self.count c.in-Some.index c.loop-index.index-iterator.iter c.next.new.self.iter c.in-Some.validator c.in-Some.ensures.steps c.loop-index.invariant.sum c.loop-index.invariant.at;
  sum = step_others c.args.genesis.now c.args.votes.now c.loop-index.balance c.loop-index.index-iterator.count c.next.new.self.count c.in-Some.index c.loop-index.index-iterator.iter c.next.new.self.iter c.in-Some.validator c.in-Some.ensures.steps c.loop-index.invariant.sum c.counts.result c.counts.ensures c.if-counts.false;
}
