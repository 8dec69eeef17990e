-- Each further word is the next one of each lane's schedule.
use Rattle.std.proofs.Common.{◌≡◌, ◌≢◌, ◌<◌, List, ℕ, [], length, slice_index, ap, ◌∙◌, arith, inl, inr}
use Rattle.std.proofs.lemmas.Bool.{cases_lt}
use Rattle.std.proofs.lemmas.List.{get_or-set_same, get_or-set_other, length-set}
use Rattle.hash_tree.proofs.rounds.expand_near.Goals as goal

pub words-init : goal.words-init
words-init c = record { room = c.told-w; so_far = λ j round page seed less near ahead before k below. before k below }

pub words-preserved : goal.words-preserved
words-preserved c = record {
  room = length-set c.words.w c.words.t c.following_near.result ∙ c.words.invariant.room;
  so_far = λ j round page seed less near ahead begun k below. elim (cases_lt k c.words.t) [
    | inl before ↦
        let other : k ≢ c.words.t = omega arith in
        ap (λ (x : List ℕ). slice_index x j) (get_or-set_other c.words.w c.words.t k c.following_near.result [] other)
        ∙ c.words.invariant.so_far j round page seed less near ahead begun k before
    | inr last ↦
        let here : k ≡ c.words.t = omega arith in
        let room : c.words.t < length c.words.w = omega (arith, c.words.invariant.room) in
        rw here
        (ap (λ (x : List ℕ). slice_index x j) (get_or-set_same c.words.w c.words.t c.following_near.result [] room)
        ∙ c.following_near.ensures j round page seed less near ahead (λ i before. c.words.invariant.so_far j round page seed less near ahead begun i before))
  ];
}

pub returns : goal.returns
returns c j round page seed less near ahead begun k below =
    c.words.invariant.so_far j round page seed less near ahead begun k (let done : c.words.t ≡ 38 = omega (arith, c.words.auto.t-end (omega arith)) in omega arith)
