use Rattle.std.proofs.Common.{◌≡◌, ◌+◌, ◌∷◌, ◌++◌, [], length, ap, ◌∙◌, length-append, arith}
use Rattle.block_array.specs.inside.Counts.{Counts, nothing, counted_of}
use Rattle.block_array.specs.inside.Noted.{count_changed}
use Rattle.block_array.proofs.Noting.{pad_step, pad_same, pad_many}
use Rattle.block_array.proofs.note.pad.Goals as goal

pub loop-place-preserved : goal.loop-place-preserved
loop-place-preserved c =
    let vs : c.push_validator.new.self.validators ≡ c.loop-place.tally.validators ++ nothing ∷ [] = ap (λ (x : Counts). x.validators) c.push_validator.ensures.pushed in
    let len : length (c.loop-place.tally.validators ++ nothing ∷ []) ≡ length c.loop-place.tally.validators + 1 = length-append c.loop-place.tally.validators (nothing ∷ []) in
    record {
      same = pad_step c.args.tally.now c.loop-place.tally c.push_validator.new.self _ c.loop-place.invariant.same c.push_validator.ensures.pushed;
      length_is = ap length vs ∙ len ∙ ap (λ n. n + 1) c.loop-place.invariant.length_is;
      short = (let s = c.loop-place.invariant.short in let t = c.loop-place-test.true in omega arith);
      counted = λ v. ap (λ ws. counted_of ws v) vs ∙ pad_same c.loop-place.tally.validators v ∙ c.loop-place.invariant.counted v;
      many = ap count_changed vs ∙ pad_many c.loop-place.tally.validators ∙ c.loop-place.invariant.many;
      room = (let m = c.push_validator.ensures.more in let r = c.loop-place.invariant.room in omega arith);
    }

pub returns-clause-length_is : goal.returns-clause-length_is
returns-clause-length_is c =
    let e = c.loop-place.auto.place-end in let s = c.loop-place.auto.place in let t = c.loop-place-test.false in let l = c.loop-place.invariant.length_is in
    let x = c.validators-place.ensures.same in let m = c.loop-place.invariant.short in omega arith
