use Rattle.std.proofs.Common.{◌≡◌, ◌+◌, ◌-◌, ◌/◌, ◌%◌, [], length, slice_index, slice_index_or, sym, ap, ◌∙◌, arith, inl, inr}
use Rattle.std.proofs.lemmas.Bool.{cases_lt}
use Rattle.committees.specs.Shuffling.{pivot_of, after_round, bit_in, bit_of, source_of}
use Rattle.committees.specs.inside.Pass.{later, by_source}
use Rattle.committees.proofs.Rounds.{flip_of, after_center}
use Rattle.committees.proofs.Pass.{join, same_choice}
use Rattle.committees.proofs.list.swap_mirror_images.Goals as goal

pub loop-position-preserved : goal.loop-position-preserved
unfolding bit_of
loop-position-preserved c =
    let loop = c.loop-position in
    let seed = c.args.seed.now in
    let count = length c.args.list.now in
    let sum = c.args.start + c.args.end - 1 in
    let next = c.min-next.result in
    let source = slice_index_or c.turn_pages.new.pages (loop.position / 256 % 8) [] in
    record {
      from = omega arith;
      to = omega arith;
      pages = λ less more k same. c.turn_pages.ensures k (omega arith);
      long = c.swap_where_set.ensures.length ∙ loop.invariant.long;
      passed = join (after_round seed c.args.round count) (by_source source sum) sum _
          loop.position next c.args.list.now loop.list c.swap_where_set.new.self
          loop.invariant.from (omega arith) loop.invariant.passed c.swap_where_set.ensures.passed
          (λ place more less.
          let flip : flip_of (pivot_of seed c.args.round count) count place ≡ sum - place = c.requires.mirror place (omega arith) (omega arith) ∙ omega arith in
          let same : loop.position / 256 ≡ later sum place / 256 = omega arith in
          let bit : bit_in source (later sum place) ≡ bit_of seed c.args.round (later sum place) =
          ap (λ bits. bit_in bits (later sum place)) (c.turn_pages.ensures (loop.position / 256) (omega arith) ∙ ap (source_of seed c.args.round) same) in
          same_choice seed source c.args.round count sum place (omega arith) flip bit);
    }

pub returns-clause-inside : goal.returns-clause-inside
returns-clause-inside c = λ place more less.
    let loop = c.loop-position in
    let seed = c.args.seed.now in
    let count = length c.args.list.now in
    let sum = c.args.start + c.args.end - 1 in
    elim (cases_lt (later sum place) (c.args.end - (c.args.end - c.args.start) / 2)) [
      | inl low ↦ loop.invariant.passed.outside place (inl low)
          ∙ ap (slice_index c.args.list.now) (sym (after_center seed c.args.round count place (c.requires.mirror place more less ∙ omega arith)))
      | inr high ↦ loop.invariant.passed.inside place high (omega arith)
    ]
