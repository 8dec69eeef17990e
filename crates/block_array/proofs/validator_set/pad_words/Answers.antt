use Rattle.std.proofs.Common.{◌≡◌, ◌+◌, ◌∷◌, ◌++◌, [], length, ap, ◌∙◌, arith, length-append}
use Rattle.block_array.specs.inside.Silenced.{indices_in}
use Rattle.block_array.proofs.ValidatorSets.{padded}
use Rattle.block_array.proofs.validator_set.pad_words.Goals as goal

pub loop-next-preserved : goal.loop-next-preserved
loop-next-preserved c =
    let more : length (c.loop-next.words.items ++ 0 ∷ []) ≡ length c.loop-next.words.items + 1 = length-append c.loop-next.words.items (0 ∷ []) in
    let places : length c.loop-next.words.items ≡ c.loop-next.next = c.loop-next.invariant.places in
    let before = c.loop-next.invariant.room in
    let room = c.push_item.ensures.room in
    record {
      same = ap indices_in c.push_item.ensures.pushed ∙ padded c.loop-next.words.items ∙ c.loop-next.invariant.same;
      places = ap length c.push_item.ensures.pushed ∙ (let e : length (c.loop-next.words.items ++ 0 ∷ []) ≡ c.loop-next.next + 1 = omega arith in e);
      room = omega arith;
    }
