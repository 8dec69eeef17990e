use Rattle.std.proofs.Common.{◌≡◌, ℕ, ◌-◌, List, length, drop, length-drop, sym, ap, subst, ◌∙◌, arith}
use borrow.Rule.Slice.PartMut.{put_mid, same_len_mid}
use Rattle.committees.specs.inside.Pass.{by_source, Passed}
use Rattle.committees.specs.inside.Planes.{from_planes}
use Rattle.committees.proofs.Joined.{behind_is, behind_length, behind_written, from_planes_length, joined_as_long, joined_passed, from_planes_written}
use Rattle.committees.proofs.planes.Planes.swap_where_set.Goals as goal

pub swap_planes-requires-clause-in_low : goal.swap_planes-requires-clause-in_low
swap_planes-requires-clause-in_low c =
    let s = c.self.inside in
    omega (arith, ap length c.self.view_is, from_planes_length s.low.items (drop 2048 s.middle.items) s.high.items (sym (behind_length s.middle.items (length s.low.items) c.self.invariant.0)) c.self.invariant.1, ap length c.deref_mut.ensures.value)

pub swap_planes-requires-clause-in_middle : goal.swap_planes-requires-clause-in_middle
swap_planes-requires-clause-in_middle c =
    let s = c.self.inside in
    omega (arith, ap length c.self.view_is, from_planes_length s.low.items (drop 2048 s.middle.items) s.high.items (sym (behind_length s.middle.items (length s.low.items) c.self.invariant.0)) c.self.invariant.1, ap length c.deref_mut-2.ensures.value, ap length (behind_is c.deref_mut-2.result.now), length-drop 2048 c.deref_mut-2.result.now, c.self.invariant.0)

pub swap_planes-requires-clause-in_high : goal.swap_planes-requires-clause-in_high
swap_planes-requires-clause-in_high c =
    let s = c.self.inside in
    omega (arith, ap length c.self.view_is, from_planes_length s.low.items (drop 2048 s.middle.items) s.high.items (sym (behind_length s.middle.items (length s.low.items) c.self.invariant.0)) c.self.invariant.1, ap length c.deref_mut-3.ensures.value)

pub swap_planes-requires-clause-fits_low : goal.swap_planes-requires-clause-fits_low
swap_planes-requires-clause-fits_low c =
    let s = c.self.inside in
    omega (arith, ap length c.self.view_is, from_planes_length s.low.items (drop 2048 s.middle.items) s.high.items (sym (behind_length s.middle.items (length s.low.items) c.self.invariant.0)) c.self.invariant.1, ap length c.deref_mut.ensures.value)

pub swap_planes-requires-clause-fits_middle : goal.swap_planes-requires-clause-fits_middle
swap_planes-requires-clause-fits_middle c =
    let s = c.self.inside in
    omega (arith, ap length c.self.view_is, from_planes_length s.low.items (drop 2048 s.middle.items) s.high.items (sym (behind_length s.middle.items (length s.low.items) c.self.invariant.0)) c.self.invariant.1, ap length c.deref_mut-2.ensures.value, ap length (behind_is c.deref_mut-2.result.now), length-drop 2048 c.deref_mut-2.result.now, c.self.invariant.0)

pub swap_planes-requires-clause-fits_high : goal.swap_planes-requires-clause-fits_high
swap_planes-requires-clause-fits_high c =
    let s = c.self.inside in
    omega (arith, ap length c.self.view_is, from_planes_length s.low.items (drop 2048 s.middle.items) s.high.items (sym (behind_length s.middle.items (length s.low.items) c.self.invariant.0)) c.self.invariant.1, ap length c.deref_mut-3.ensures.value)

pub returns-clause-passed : goal.returns-clause-passed
returns-clause-passed c =
    let s = c.self.inside in
    let new = c.swap_planes.new in
    let low : length new.low ≡ s.low.len = omega (arith, ap length c.deref_mut.ensures.value, c.deref_mut.ensures.len, s.low.ok.0, c.swap_planes.auto.low) in
    let all = c.deref_mut-2.result.now in
    let written = put_mid 2048 (length all - 2048) all new.middle in
    let same = ap length c.deref_mut-2.ensures.value in
    let behind = behind_length s.middle.items (length s.low.items) c.self.invariant.0 in
    let part : length new.middle ≡ length s.low.items = omega (arith, c.swap_planes.auto.middle, ap length (behind_is all), length-drop 2048 all, same, c.self.invariant.0) in
    let middle : length written ≡ s.middle.len = same_len_mid 2048 (length all - 2048) all new.middle (omega (arith, c.swap_planes.auto.middle)) ∙ omega (arith, same, s.middle.ok.0) in
    let is_part : drop 2048 written ≡ new.middle = behind_written all new.middle (omega (arith, same, c.self.invariant.0)) in
    let high : length new.high ≡ s.high.len = omega (arith, ap length c.deref_mut-3.ensures.value, c.deref_mut-3.ensures.len, s.high.ok.0, c.swap_planes.auto.high) in
    let second : length new.low ≡ length new.middle = omega (arith, low, part, s.low.ok.0) in
    let third : length new.low ≡ length new.high = omega (arith, low, high, s.low.ok.0, s.high.ok.0, c.self.invariant.1) in
    rw (← c.self.view_is)
    (subst (λ (list : List ℕ). Passed (by_source c.args.source.now c.args.sum) c.args.sum c.args.first c.args.last (from_planes s.low.items (drop 2048 s.middle.items) s.high.items) list)
    (sym (from_planes_written s.low s.middle s.high new.low written new.high low middle high ∙ ap (λ n. from_planes new.low n new.high) is_part))
    (joined_passed (by_source c.args.source.now c.args.sum) c.args.sum c.args.first c.args.last
    s.low.items (drop 2048 s.middle.items) s.high.items new.low new.middle new.high
    (sym behind) c.self.invariant.1 second third
    (rw c.deref_mut.ensures.value at c.swap_planes.ensures.low)
    (subst (λ (list : List ℕ). Passed (by_source c.args.source.now c.args.sum) c.args.sum c.args.first c.args.last list new.middle)
    (behind_is all ∙ ap (drop 2048) c.deref_mut-2.ensures.value) c.swap_planes.ensures.middle)
    (rw c.deref_mut-3.ensures.value at c.swap_planes.ensures.high)))

pub returns-clause-length : goal.returns-clause-length
returns-clause-length c =
    let s = c.self.inside in
    let new = c.swap_planes.new in
    let low : length new.low ≡ s.low.len = omega (arith, ap length c.deref_mut.ensures.value, c.deref_mut.ensures.len, s.low.ok.0, c.swap_planes.auto.low) in
    let all = c.deref_mut-2.result.now in
    let written = put_mid 2048 (length all - 2048) all new.middle in
    let same = ap length c.deref_mut-2.ensures.value in
    let behind = behind_length s.middle.items (length s.low.items) c.self.invariant.0 in
    let part : length new.middle ≡ length s.low.items = omega (arith, c.swap_planes.auto.middle, ap length (behind_is all), length-drop 2048 all, same, c.self.invariant.0) in
    let middle : length written ≡ s.middle.len = same_len_mid 2048 (length all - 2048) all new.middle (omega (arith, c.swap_planes.auto.middle)) ∙ omega (arith, same, s.middle.ok.0) in
    let is_part : drop 2048 written ≡ new.middle = behind_written all new.middle (omega (arith, same, c.self.invariant.0)) in
    let high : length new.high ≡ s.high.len = omega (arith, ap length c.deref_mut-3.ensures.value, c.deref_mut-3.ensures.len, s.high.ok.0, c.swap_planes.auto.high) in
    let second : length new.low ≡ length new.middle = omega (arith, low, part, s.low.ok.0) in
    let third : length new.low ≡ length new.high = omega (arith, low, high, s.low.ok.0, s.high.ok.0, c.self.invariant.1) in
    rw (← c.self.view_is)
    (ap length (from_planes_written s.low s.middle s.high new.low written new.high low middle high ∙ ap (λ n. from_planes new.low n new.high) is_part)
    ∙ joined_as_long s.low.items (drop 2048 s.middle.items) s.high.items new.low new.middle new.high
    (sym behind) c.self.invariant.1 second third (omega (arith, low, s.low.ok.0)))
