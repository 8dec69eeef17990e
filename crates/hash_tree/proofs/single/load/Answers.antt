-- One word more.
use Rattle.std.proofs.Common.{rules, ◌≡◌, ◌++◌, inl, inr, ◌∙◌, arith, length-append}
use Rattle.std.proofs.lemmas.Bool.{cases_lt}
use Rattle.std.proofs.lemmas.List.{get_or-set_same, get_or-set_other}
use Rattle.sha2.proofs.Schedule256.{IsWindow_first}
use Rattle.hash_tree.proofs.single.load.Goals as goal

pub load-preserved : goal.load-preserved
load-preserved c = record {
  room = search rules;
  so_far = λ k less. elim (cases_lt k c.load.k) [
    | inl before ↦ get_or-set_other c.load.w c.load.k k c.word.result 0 (omega arith) ∙ c.load.invariant.so_far k before
    | inr last ↦
        let same : c.load.k ≡ k = omega arith in
        rw (← same) (get_or-set_same c.load.w c.load.k c.word.result 0 (omega (arith, c.load.invariant.room)) ∙ c.word.ensures)
  ];
}

pub returns-clause-window : goal.returns-clause-window
returns-clause-window c = IsWindow_first (c.args.a.now ++ c.args.b.now) c.load.w c.load.invariant.room (λ k less. c.load.invariant.so_far k (omega arith))

pub returns-clause-long : goal.returns-clause-long
returns-clause-long c = omega (arith, length-append c.args.a.now c.args.b.now)
