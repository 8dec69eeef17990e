use Rattle.std.proofs.Common.{rules, ◌≡◌, ◌++◌, ◌+◌, ◌∙◌, ℕ, List, [], ◌∷◌, sym, ap}
use Rattle.beacon_types.specs.declared.validator.Validator.{Validator}
use Rattle.epoch_processing.specs.inside.Ranks.{ranks_from}
use Rattle.epoch_processing.proofs.Ranks.{rank_next, ranks_end}
use Rattle.epoch_processing.proofs.activations.ranks.Goals as goal

pub loop-index-preserved : goal.loop-index-preserved
loop-index-preserved c =
    let state = c.args.state.now in
    let walk = c.loop-index.index-iterator in
    let v = c.in-Some.validator in
    let before = c.loop-index.ranks.items in
    let opened : walk.iter ≡ v ∷ c.next.new.self.iter = search rules in
    let count : c.next.new.self.count ≡ walk.count + 1 = search rules in
    let place : c.in-Some.index ≡ walk.count = search rules in
    let noted = c.in_ok-note_rank.ensures ∙ ap (λ (i : ℕ). before ++ ranks_from state i (v ∷ [])) place in
    ap (λ (n : ℕ). c.note_rank.new.ranks.items ++ ranks_from state n c.next.new.self.iter) count
    ∙ (rank_next state walk.count v c.next.new.self.iter before c.note_rank.new.ranks.items noted
    ∙ (ap (λ (left : List Validator). before ++ ranks_from state walk.count left) (sym opened) ∙ c.loop-index.invariant))

pub returns : goal.returns
returns c =
    let state = c.args.state.now in
    let walk = c.loop-index.index-iterator in
    let none : walk.iter ≡ [] = search rules in
    sym (ranks_end state c.loop-index.ranks.items walk.count) ∙ (ap (λ (left : List Validator). c.loop-index.ranks.items ++ ranks_from state walk.count left) (sym none) ∙ c.loop-index.invariant)
