use Rattle.std.proofs.Common.{◌≡◌, ◌+◌, ◌<◌, cond, length, drop, sym, ap, subst, arith}
use Rattle.std.proofs.lemmas.List.Elements.{All-tail}
use Rattle.block_array.specs.GetLatestAttestingBalance.{is_on_chain_of, get_latest_attesting_balance}
use Rattle.block_array.specs.inside.Counts.{all_of, counted_at, counted_of, IsBelow}
use Rattle.block_array.proofs.Counting.{counted_cons}
use Rattle.block_array.proofs.Summing.{counted_below, counted_drop, counted_none}
use Rattle.block_array.proofs.Weights.{weight_is}
use Rattle.block_array.proofs.weight.weight_of.Goals as goal

pub loop-validator-init : goal.loop-validator-init
loop-validator-init c =
    let all : counted_at (is_on_chain_of c.nodes-nodes.result.now c.args.number) (all_of c.args.tally.now) ≡ cond (is_on_chain_of c.nodes-nodes.result.now c.args.number c.args.tally.now.boost.node) c.args.tally.now.boost.balance 0 + counted_at (is_on_chain_of c.nodes-nodes.result.now c.args.number) c.args.tally.now.validators = counted_cons (is_on_chain_of c.nodes-nodes.result.now c.args.number) c.args.tally.now.boost c.args.tally.now.validators in
    cc

pub share-weight-requires-in-loop-validator-clause-node : goal.share-weight-requires-in-loop-validator-clause-node
share-weight-requires-in-loop-validator-clause-node c =
    let inside : c.loop-validator.validator < length c.args.tally.now.validators = omega arith in
    let below : (counted_of c.args.tally.now.validators c.loop-validator.validator).node < c.args.tally.now.nodes = counted_below c.args.tally.now.nodes c.args.tally.now.validators c.loop-validator.validator (All-tail (IsBelow c.args.tally.now.nodes) c.args.tally.now.boost c.args.tally.now.validators c.bounds.ensures.below) inside in
    let nodes : length c.nodes-nodes.result.now ≡ length c.args.inputs.now.array.nodes = ap length c.nodes-nodes.ensures.same in
    let count : c.args.tally.now.nodes ≡ length c.args.inputs.now.array.nodes = c.requires.counted.nodes in
    subst (λ k. k.node < length c.nodes-nodes.result.now) (sym c.counted-counted.ensures) (omega arith)

pub loop-validator-preserved : goal.loop-validator-preserved
loop-validator-preserved c =
    let inside : c.loop-validator.validator < length c.args.tally.now.validators = omega arith in
    let one : counted_at (is_on_chain_of c.nodes-nodes.result.now c.args.number) (drop c.loop-validator.validator c.args.tally.now.validators) ≡ cond (is_on_chain_of c.nodes-nodes.result.now c.args.number (counted_of c.args.tally.now.validators c.loop-validator.validator).node) (counted_of c.args.tally.now.validators c.loop-validator.validator).balance 0 + counted_at (is_on_chain_of c.nodes-nodes.result.now c.args.number) (drop (c.loop-validator.validator + 1) c.args.tally.now.validators) = counted_drop (is_on_chain_of c.nodes-nodes.result.now c.args.number) c.args.tally.now.validators c.loop-validator.validator inside in
    let mine : c.share-weight-in-loop-validator.result ≡ cond (is_on_chain_of c.nodes-nodes.result.now c.args.number (counted_of c.args.tally.now.validators c.loop-validator.validator).node) (counted_of c.args.tally.now.validators c.loop-validator.validator).balance 0 = cc in
    let before : c.loop-validator.weight + counted_at (is_on_chain_of c.nodes-nodes.result.now c.args.number) (drop c.loop-validator.validator c.args.tally.now.validators) ≡ counted_at (is_on_chain_of c.nodes-nodes.result.now c.args.number) (all_of c.args.tally.now) = c.loop-validator.invariant in
    omega arith

pub returns : goal.returns
returns c =
    let none : counted_at (is_on_chain_of c.nodes-nodes.result.now c.args.number) (drop c.loop-validator.validator c.args.tally.now.validators) ≡ 0 = counted_none (is_on_chain_of c.nodes-nodes.result.now c.args.number) c.args.tally.now.validators c.loop-validator.validator (omega arith) in
    let all : c.loop-validator.weight + counted_at (is_on_chain_of c.nodes-nodes.result.now c.args.number) (drop c.loop-validator.validator c.args.tally.now.validators) ≡ counted_at (is_on_chain_of c.nodes-nodes.result.now c.args.number) (all_of c.args.tally.now) = c.loop-validator.invariant in
    let is : counted_at (is_on_chain_of c.args.inputs.now.array.nodes c.args.number) (all_of c.args.tally.now) ≡ get_latest_attesting_balance c.args.inputs.now.array c.args.number = weight_is c.args.inputs.now.array c.args.number c.args.tally.now c.requires.counted in
    let same : counted_at (is_on_chain_of c.nodes-nodes.result.now c.args.number) (all_of c.args.tally.now) ≡ counted_at (is_on_chain_of c.args.inputs.now.array.nodes c.args.number) (all_of c.args.tally.now) = ap (λ ns. counted_at (is_on_chain_of ns c.args.number) (all_of c.args.tally.now)) c.nodes-nodes.ensures.same in
    omega arith
