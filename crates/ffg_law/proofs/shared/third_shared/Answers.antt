-- One validator more: it is in both lists exactly where it is in what is left of both.
use Rattle.std.proofs.Common.{◌≡◌, ◌+◌, ◌<◌, ℕ, Bool, ◌&&◌, if◌then◌else◌, List, length, drop, get_or, ◌∙◌, arith}
use Rattle.ffg_law.specs.Weights.{among, both, weight_from, weight_of}
use Rattle.ffg_law.proofs.Weights.{weight_within, next_weight, no_weight}
use Rattle.ffg_law.proofs.shared.third_shared.Goals as goal

same_choice : (p q a b : Bool) (w : ℕ) → p ≡ a → q ≡ b → (if p && q then w else 0) ≡ (if a && b then w else 0)
same_choice p q a b w e f = cc

-- what is shared grows by what the validator weighs in both
grown : (set : ℕ → Bool) (index shared counted : ℕ) (weights : List ℕ) → index < length weights → counted ≡ (if set index then get_or weights index 0 else 0) → shared + weight_from set index (drop index weights) ≡ weight_of weights set → (shared + counted) + weight_from set (index + 1) (drop (index + 1) weights) ≡ weight_of weights set
grown set index shared counted weights less is to_come = omega (arith, next_weight set index weights less)

pub overflow_add-shared : goal.overflow_add-shared
overflow_add-shared c =
    let set : ℕ → Bool = both (among c.args.first.now) (among c.args.second.now) in
    let is = c.counted-shared.ensures ∙ same_choice _ _ _ _ _ (c.behind-of_first.ensures.here ∙ c.loop-index.invariant.left_same c.loop-index.index (omega arith)) (c.behind-of_second.ensures.here ∙ c.loop-index.invariant.right_same c.loop-index.index (omega arith)) in
    let whole = grown set c.loop-index.index c.loop-index.shared c.counted-shared.result c.args.weights.now c.loop-index-test.true is c.loop-index.invariant.to_come in
    omega (arith, whole, weight_within set 0 c.args.weights.now, c.requires.room)

pub loop-index-preserved : goal.loop-index-preserved
loop-index-preserved c =
    let set : ℕ → Bool = both (among c.args.first.now) (among c.args.second.now) in
    let is = c.counted-shared.ensures ∙ same_choice _ _ _ _ _ (c.behind-of_first.ensures.here ∙ c.loop-index.invariant.left_same c.loop-index.index (omega arith)) (c.behind-of_second.ensures.here ∙ c.loop-index.invariant.right_same c.loop-index.index (omega arith)) in
    record {
      left_ascends = c.behind-of_first.ensures.rest;
      right_ascends = c.behind-of_second.ensures.rest;
      left_same = λ k from. c.behind-of_first.ensures.same k (omega arith) ∙ c.loop-index.invariant.left_same k (omega arith);
      right_same = λ k from. c.behind-of_second.ensures.same k (omega arith) ∙ c.loop-index.invariant.right_same k (omega arith);
      to_come = grown set c.loop-index.index c.loop-index.shared c.counted-shared.result c.args.weights.now c.loop-index-test.true is c.loop-index.invariant.to_come;
    }

pub returns : goal.returns
returns c =
    omega (arith, c.loop-index.invariant.to_come, no_weight (both (among c.args.first.now) (among c.args.second.now)) c.loop-index.index c.args.weights.now c.loop-index-test.false)
