use Rattle.std.proofs.Common.{◌++◌, ◌∷◌, [], ◌∙◌, sym, ap}
use Rattle.epoch_processing.proofs.Ranks.{rank_alone, no_rank}
use Rattle.epoch_processing.proofs.activations.note_rank.Goals as goal

pub returns-in_ok-push : goal.returns-in_ok-push
returns-in_ok-push c =
    c.in_ok-push.ensures.items
    ∙ ap (λ epoch. c.args.ranks.now.items ++ (epoch, c.args.index) ∷ []) c.activation_eligibility_epoch.ensures
    ∙ rank_alone c.args.state.now c.args.index c.args.validator.now c.args.ranks.now.items (sym c.is_waiting.ensures ∙ c.if-is_waiting.true)

pub returns-else-is_waiting : goal.returns-else-is_waiting
returns-else-is_waiting c = no_rank c.args.state.now c.args.index c.args.validator.now c.args.ranks.now.items (sym c.is_waiting.ensures ∙ c.if-is_waiting.false)
