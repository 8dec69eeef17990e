use Rattle.std.proofs.Common.{true, not, ◌&&◌, nat_lt, sym, ap, ◌∙◌}
use Rattle.std.specs.Option.{option_map_or}
use Rattle.block_array.specs.declared.node.Message.{Message}
use Rattle.block_array.specs.UpdateLatestMessages.{is_news}
use Rattle.block_array.specs.PlainArray.{message_of}
use Rattle.block_array.proofs.inputs.Inputs.is_news.Goals as goal

pub returns-then-is_silenced : goal.returns-then-is_silenced
unfolding is_news
returns-then-is_silenced c =
    ap (λ b. not b && option_map_or (λ (old : Message). nat_lt old.epoch c.args.epoch) (message_of c.args.self.now.array c.args.validator) true) (sym c.if-is_silenced.true ∙ c.is_silenced.ensures)

pub returns-in-Some : goal.returns-in-Some
unfolding is_news
returns-in-Some c =
    ap (λ o. option_map_or (λ (old : Message). nat_lt old.epoch c.args.epoch) o true) (sym c.in-Some.is ∙ c.message.ensures)
    ∙ ap (λ b. not b && option_map_or (λ (old : Message). nat_lt old.epoch c.args.epoch) (message_of c.args.self.now.array c.args.validator) true) (sym c.if-is_silenced.false ∙ c.is_silenced.ensures)

pub returns-in-None : goal.returns-in-None
unfolding is_news
returns-in-None c =
    ap (λ o. option_map_or (λ (old : Message). nat_lt old.epoch c.args.epoch) o true) (sym c.in-None.is ∙ c.message.ensures)
    ∙ ap (λ b. not b && option_map_or (λ (old : Message). nat_lt old.epoch c.args.epoch) (message_of c.args.self.now.array c.args.validator) true) (sym c.if-is_silenced.false ∙ c.is_silenced.ensures)
