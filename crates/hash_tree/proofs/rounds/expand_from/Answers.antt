-- Each further word is the next one of each lane's schedule.
use Rattle.std.proofs.Common.{◌≡◌, ◌≢◌, ℕ, ◌<◌, List, [], length, slice_index, ap, ◌∙◌, arith, inl, inr}
use Rattle.std.proofs.lemmas.Bool.{cases_lt}
use Rattle.std.proofs.lemmas.List.{get_or-set_same, get_or-set_other, length-set}
use Rattle.hash_tree.proofs.Expansion.{next_is}
use Rattle.hash_tree.proofs.rounds.expand_from.Goals as goal

pub words-init : goal.words-init
words-init g c = record { room = c.told-w; so_far = λ j b less before k below. before k below }

pub words-preserved : goal.words-preserved
words-preserved g c = record {
  room = length-set c.words.w c.words.t c.following.result ∙ c.words.invariant.room;
  so_far = λ j b less begun k below. elim (cases_lt k c.words.t) [
    | inl before ↦
        let other : k ≢ c.words.t = omega arith in
        ap (λ (x : List ℕ). slice_index x j) (get_or-set_other c.words.w c.words.t k c.following.result [] other) ∙ c.words.invariant.so_far j b less begun k before
    | inr last ↦
        let here : k ≡ c.words.t = omega arith in
        let room : c.words.t < length c.words.w = omega (arith, c.words.invariant.room) in
        rw here
        (ap (λ (x : List ℕ). slice_index x j) (get_or-set_same c.words.w c.words.t c.following.result [] room)
        ∙ (c.following.ensures j less ∙ next_is c.words.w j c.words.t b (omega arith) (omega arith) (λ i before. c.words.invariant.so_far j b less begun i before)))
  ];
}

pub returns : goal.returns
returns g c j b less begun k below = c.words.invariant.so_far j b less begun k (let done : c.words.t ≡ 64 = omega (arith, c.words.auto.t-end (omega arith)) in omega arith)
