use Rattle.std.proofs.Common.{length, slice_index, drop, get_or-drop, sym, ap, ◌∙◌, arith}
use Rattle.committees.specs.inside.Planes.{with_above}
use Rattle.committees.proofs.Joined.{behind_length, from_planes_length, from_planes_is}
use Rattle.committees.proofs.planes.Planes.widen.Goals as goal

pub join-requires-clause-in_low : goal.join-requires-clause-in_low
join-requires-clause-in_low c =
    let s = c.self.inside in
    omega (arith, c.requires, ap length c.self.view_is, from_planes_length s.low.items (drop 2048 s.middle.items) s.high.items (sym (behind_length s.middle.items (length s.low.items) c.self.invariant.0)) c.self.invariant.1, c.self.invariant.0, c.self.invariant.1, ap length c.deref.ensures.value)

pub join-requires-clause-in_middle : goal.join-requires-clause-in_middle
join-requires-clause-in_middle c =
    let s = c.self.inside in
    omega (arith, c.requires, ap length c.self.view_is, from_planes_length s.low.items (drop 2048 s.middle.items) s.high.items (sym (behind_length s.middle.items (length s.low.items) c.self.invariant.0)) c.self.invariant.1, c.self.invariant.0, c.self.invariant.1, ap length c.deref-2.ensures.value)

pub join-requires-clause-in_high : goal.join-requires-clause-in_high
join-requires-clause-in_high c =
    let s = c.self.inside in
    omega (arith, c.requires, ap length c.self.view_is, from_planes_length s.low.items (drop 2048 s.middle.items) s.high.items (sym (behind_length s.middle.items (length s.low.items) c.self.invariant.0)) c.self.invariant.1, c.self.invariant.0, c.self.invariant.1, ap length c.deref-3.ensures.value)

pub returns : goal.returns
returns c =
    let s = c.self.inside in
    let long = from_planes_length s.low.items (drop 2048 s.middle.items) s.high.items (sym (behind_length s.middle.items (length s.low.items) c.self.invariant.0)) c.self.invariant.1 in
    rw (← c.self.view_is)
    (sym (from_planes_is s.low.items (drop 2048 s.middle.items) s.high.items (sym (behind_length s.middle.items (length s.low.items) c.self.invariant.0)) c.self.invariant.1 c.join.new.list
    (omega (arith, c.requires, long, ap length c.self.view_is))
    (λ k less.
    ap (λ n. with_above (slice_index s.low.items k) (with_above n (slice_index s.high.items k))) (get_or-drop 2048 s.middle.items k 0)
    ∙ sym (rw (c.deref.ensures.value, c.deref-2.ensures.value, c.deref-3.ensures.value) at c.join.ensures k (omega (arith, c.requires, long, ap length c.self.view_is))))))
