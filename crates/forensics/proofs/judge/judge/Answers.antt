use Rattle.std.proofs.Common.{◌∙◌, sym, ap}
use Rattle.spec_state.specs.declared.plain.PlainState.{PlainState}
use Rattle.spec_forensics.specs.Verdict.{moved_on, finalizing_chain}
use Rattle.forensics.proofs.Offenders.{conflict_is}
use Rattle.forensics.proofs.judge.judge.Goals as goal

pub returns : goal.returns
returns c = conflict_is c.args.genesis.now c.args.first.now.blocks c.args.second.now.blocks c.args.first.now.finalized c.args.second.now.finalized c.args.votes.now c.offenders_balance.result c.genesis_total-total.result
    (sym c.agree.ensures ∙ c.if-agree.false) c.genesis_total-total.ensures (sym c.is_small.ensures ∙ c.if-is_small.false)
    (sym c.in_default.is ∙ c.first_move.ensures ∙ ap (λ (g : PlainState). moved_on g (finalizing_chain c.args.first.now.blocks c.args.first.now.finalized)) c.requires.first)
    (sym c.in_default-first_move.is ∙ c.first_move-2.ensures ∙ ap (λ (g : PlainState). moved_on g (finalizing_chain c.args.second.now.blocks c.args.second.now.finalized)) c.requires.second)
    c.requires.validators c.requires.votes c.offenders_balance.ensures
