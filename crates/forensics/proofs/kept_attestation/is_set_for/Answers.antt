use Rattle.std.proofs.Common.{◌∙◌, sym, rules, tests}
use Rattle.forensics.proofs.Searching.{unset, another, found, nobody}
use Rattle.forensics.proofs.kept_attestation.is_set_for.Goals as goal

pub loop-i-preserved-then-not-is_set : goal.loop-i-preserved-then-not-is_set
loop-i-preserved-then-not-is_set c = unset c.args.members.now c.args.bits.now c.args.validator c.loop-i.i c.loop-i-test.true (sym c.is_set.ensures ∙ c.if-not-is_set.true) ∙ c.loop-i.invariant

pub returns-then-members-i : goal.returns-then-members-i
returns-then-members-i c = sym (found c.args.members.now c.args.bits.now c.args.validator c.loop-i.i c.loop-i-test.true (sym c.is_set.ensures ∙ c.if-not-is_set.false) (search (rules, tests))) ∙ c.loop-i.invariant

pub loop-i-preserved : goal.loop-i-preserved
loop-i-preserved c = another c.args.members.now c.args.bits.now c.args.validator c.loop-i.i c.loop-i-test.true (sym c.is_set.ensures ∙ c.if-not-is_set.false) (search (rules, tests)) ∙ c.loop-i.invariant

pub returns : goal.returns
returns c = sym (nobody c.args.members.now c.args.bits.now c.args.validator c.loop-i.i c.loop-i-test.false) ∙ c.loop-i.invariant
