-- One more is listed and weighed where it is active, and nothing is left in the end.
use Rattle.std.proofs.Common.{◌≡◌, ℕ, true, false, List, [], ◌∷◌, ◌++◌, IfSome, sym, ap, subst, ◌∙◌}
use Rattle.beacon_types.specs.declared.validator.Validator.{Validator}
use Rattle.spec_state.specs.Predicates.{is_active_validator}
use Rattle.active_sets.specs.inside.Active.{balance_in}
use Rattle.balance_totals.specs.inside.Sums.{IsNextSum}
use Rattle.balance_totals.proofs.ActiveLeft.{indices_left, sum_left, list_grows, list_stays, known_grows, known_stays, known_ends}
use Rattle.balance_totals.proofs.totals.listed.Goals as goal

pub loop-index-preserved-then-is_active_entry : goal.loop-index-preserved-then-is_active_entry
loop-index-preserved-then-is_active_entry c =
    let epoch = c.args.epoch in
    let total = balance_in c.args.state.now.validators epoch in
    let indices = c.loop-index.indices.items in
    let balance = c.loop-index.balance in
    let i = c.loop-index.index-iterator.count in
    let v = c.in-Some.validator in
    let left = c.next.new.self.iter in
    let count = c.next.new.self.count in
    let step = c.in-Some.ensures.steps in
    let is : is_active_validator v epoch ≡ true = sym c.is_active_entry.ensures ∙ c.if-is_active_entry.true in
    record {
      indices =
          ap (λ (all : List ℕ). all ++ indices_left epoch count left) c.in_ok-push.ensures.items
          ∙ ap (λ (k : ℕ). (indices ++ k ∷ []) ++ indices_left epoch count left) step.1
          ∙ ap (λ (n : ℕ). (indices ++ i ∷ []) ++ indices_left epoch n left) step.2
          ∙ list_grows epoch indices i v left is
          ∙ ap (λ (vs : List Validator). indices ++ indices_left epoch i vs) (sym step.0)
          ∙ c.loop-index.invariant.indices;
      balance = known_grows epoch balance c.with_summand-balance.result total v left is
          (subst (λ (n : ℕ). IsNextSum balance n c.with_summand-balance.result) c.effective_balance.ensures c.with_summand-balance.ensures)
          (subst (λ (vs : List Validator). IfSome balance (λ sum. sum_left epoch sum vs ≡ total)) step.0 c.loop-index.invariant.balance);
    }

pub loop-index-preserved : goal.loop-index-preserved
loop-index-preserved c =
    let epoch = c.args.epoch in
    let total = balance_in c.args.state.now.validators epoch in
    let indices = c.loop-index.indices.items in
    let balance = c.loop-index.balance in
    let i = c.loop-index.index-iterator.count in
    let v = c.in-Some.validator in
    let left = c.next.new.self.iter in
    let step = c.in-Some.ensures.steps in
    let is : is_active_validator v epoch ≡ false = sym c.is_active_entry.ensures ∙ c.if-is_active_entry.false in
    record {
      indices =
          ap (λ (n : ℕ). indices ++ indices_left epoch n left) step.2
          ∙ list_stays epoch indices i v left is
          ∙ ap (λ (vs : List Validator). indices ++ indices_left epoch i vs) (sym step.0)
          ∙ c.loop-index.invariant.indices;
      balance = known_stays epoch balance total v left is
          (subst (λ (vs : List Validator). IfSome balance (λ sum. sum_left epoch sum vs ≡ total)) step.0 c.loop-index.invariant.balance);
    }

pub returns-clause-balance : goal.returns-clause-balance
returns-clause-balance c =
    let epoch = c.args.epoch in
    let total = balance_in c.args.state.now.validators epoch in
    let balance = c.loop-index.balance in
    known_ends epoch balance total
    (subst (λ (vs : List Validator). IfSome balance (λ sum. sum_left epoch sum vs ≡ total)) c.in-None.ensures.steps.0.0 c.loop-index.invariant.balance)
