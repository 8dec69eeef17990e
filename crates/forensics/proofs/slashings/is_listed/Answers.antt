use Rattle.std.proofs.Common.{◌∙◌, Bool, ◌||◌, get_or, sym, ap}
use Rattle.std.proofs.lemmas.List.Folds.{list_any_at, list_any_more}
use Rattle.beacon_types.specs.declared.attester_slashing.AttesterSlashing.{AttesterSlashing}
use Rattle.spec_fork_choice.specs.SameBlock.{same_attester_slashing}
use Rattle.spec_slasher.specs.Operations.{is_listed}
use Rattle.forensics.proofs.slashings.is_listed.Goals as goal

pub returns-then-is_same : goal.returns-then-is_same
unfolding is_listed
returns-then-is_same c =
    sym (list_any_at (λ (o : AttesterSlashing). same_attester_slashing o c.args.operation.now) c.args.operations.now c.loop-other.other-index c.other-item.result c.loop-other-test.true
    (ap (λ (o : AttesterSlashing). same_attester_slashing o c.args.operation.now) (sym c.other-item.is) ∙ sym c.is_same.ensures ∙ c.if-is_same.true))

pub loop-other-preserved : goal.loop-other-preserved
loop-other-preserved c =
    list_any_more (λ (o : AttesterSlashing). same_attester_slashing o c.args.operation.now) c.args.operations.now c.loop-other.other-index c.other-item.result c.loop-other-test.true
    ∙ ap (λ (b : Bool). b || same_attester_slashing (get_or c.args.operations.now c.loop-other.other-index c.other-item.result) c.args.operation.now) c.loop-other.invariant
    ∙ (ap (λ (o : AttesterSlashing). same_attester_slashing o c.args.operation.now) (sym c.other-item.is) ∙ sym c.is_same.ensures ∙ c.if-is_same.false)
