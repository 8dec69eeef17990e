use Rattle.std.proofs.Common.{◌≡◌, ◌+◌, ◌∷◌, ◌++◌, [], length, set, None, ap, ◌∙◌, arith, length-append}
use Rattle.block_array.specs.UpdateLatestMessages.{with_message}
use Rattle.block_array.proofs.Messages.{empty_place, at_end, in_place}
use Rattle.block_array.proofs.inputs.put.Goals as goal

pub loop-place-preserved : goal.loop-place-preserved
loop-place-preserved c =
    let pushed : c.push_item.new.items.items ≡ c.loop-place.items.items ++ None ∷ [] = c.push_item.ensures.pushed ∙ ap (λ m. c.loop-place.items.items ++ m ∷ []) c.none.ensures in
    let places : length c.loop-place.items.items ≡ c.loop-place.place = c.loop-place.invariant.places in
    let more : length (c.loop-place.items.items ++ None ∷ []) ≡ length c.loop-place.items.items + 1 = length-append c.loop-place.items.items (None ∷ []) in
    let test = c.loop-place-test.true in
    let before = c.loop-place.invariant.room in
    let room = c.push_item.ensures.room in
    record {
      exact = ap (λ ms. with_message ms c.args.validator c.args.message) pushed ∙ empty_place c.loop-place.items.items c.args.validator c.args.message (omega arith) ∙ c.loop-place.invariant.exact;
      places = ap length pushed ∙ (let e : length (c.loop-place.items.items ++ None ∷ []) ≡ c.loop-place.place + 1 = omega arith in e);
      room = omega arith;
    }

pub returns-then-validator-len-clause-exact : goal.returns-then-validator-len-clause-exact
returns-then-validator-len-clause-exact c =
    let test = c.if-validator-len.true in
    let len = c.len.ensures in
    ap (λ m. set c.loop-place.items.items c.args.validator m) c.of.ensures ∙ in_place c.loop-place.items.items c.args.validator c.args.message (omega arith) ∙ c.loop-place.invariant.exact

pub returns-else-validator-len-clause-exact : goal.returns-else-validator-len-clause-exact
returns-else-validator-len-clause-exact c =
    let test = c.if-validator-len.false in
    let len = c.len.ensures in
    let past = c.loop-place-test.false in
    let places = c.loop-place.invariant.places in
    let end = c.loop-place.auto.place-end in
    let first = c.loop-place.invariant.exact in
    c.push_item-else-validator-len.ensures.pushed ∙ ap (λ m. c.loop-place.items.items ++ m ∷ []) c.of-else-validator-len.ensures ∙ at_end c.loop-place.items.items c.args.validator c.args.message (omega arith) ∙ c.loop-place.invariant.exact
