-- One number more.
use Rattle.std.proofs.Common.{◌≡◌, ℕ, suc, ◌+◌, ◌/◌, ◌<◌, ◌≤◌, List, [], ◌∷◌, length, take, drop, refl, sym, ap, subst, ◌∙◌, arith, length-drop}
use Rattle.std.specs.Prelude.{slice_set}
use Rattle.std.specs.List.{AllByRecursion}
use Rattle.std.specs.Vec.Iter.{into_iter_items}
use Rattle.std.proofs.lemmas.List.{take_all}
use Rattle.ssz_codec.specs.Basic.{uint64}
use Rattle.tree_nodes.specs.Changes.{AreChanges, changed}
use Rattle.shared_tree.specs.inside.Fours.{packed, numbers_in}
use Rattle.tree_nodes.proofs.Changes.{changed_none, length_changed, changed_push}
use Rattle.tree_nodes.proofs.Many.{more_places, wider}
use Rattle.shared_tree.proofs.ChunkChanges.{set_below}
use Rattle.tree_nodes.proofs.Climbs.{take_next}
use Rattle.tree_nodes.proofs.Climbs.{drop_next}
use Rattle.shared_tree.proofs.Packing.{length_packed}
use Rattle.shared_tree.proofs.chunked.chunk_changes.Goals as goal

pub numbers-init : goal.numbers-init
numbers-init c =
    let none : length c.new-chunks.result.items ≡ 0 = ap length c.new-chunks.ensures.items in
    let same = changed_none (numbers_in c.args.len c.args.tree.now.1) [] refl in
    record {
      rest = c.into_iter-rest.ensures.rest;
      made = changed_none c.args.tree.now.1 c.new-chunks.result.items none ∙ (c.requires.packs ∙ ap packed (sym same));
      places = subst (λ (cs : List (ℕ × _)). AreChanges 0 0 cs) (sym c.new-chunks.ensures.items) tt;
      before = tt;
      behind = c.requires.places;
      upto = omega arith;
      few = omega arith;
      within = subst (λ (xs : List ℕ). AllByRecursion uint64.Within xs) (sym same) c.requires.within;
    }

pub add_number-requires-clause-within : goal.add_number-requires-clause-within
add_number-requires-clause-within c =
    let head = subst (λ (cs : List (ℕ × ℕ)). AreChanges c.numbers.low c.args.len cs) (sym c.numbers.invariant.rest ∙ c.next_of-at.ensures) c.numbers.invariant.behind in
    let below : c.next_of-at.result.0 < c.args.len = head.1 in
    omega (arith, ap length c.requires.packs, length_packed (numbers_in c.args.len c.args.tree.now.1), c.requires.len_is)

pub add_number-requires-clause-places : goal.add_number-requires-clause-places
add_number-requires-clause-places c =
    let head = subst (λ (cs : List (ℕ × ℕ)). AreChanges c.numbers.low c.args.len cs) (sym c.numbers.invariant.rest ∙ c.next_of-at.ensures) c.numbers.invariant.behind in
    let above : c.numbers.low ≤ c.next_of-at.result.0 = head.0 in
    wider 0 ((c.numbers.low + 3) / 4) (c.next_of-at.result.0 / 4 + 1) c.numbers.chunks.items (omega arith) c.numbers.invariant.places

pub numbers-preserved : goal.numbers-preserved
numbers-preserved c =
    let dropped : drop c.numbers.k c.args.changes.items ≡ c.next_of-at.result ∷ into_iter_items c.next_of-at.new.rest = sym c.numbers.invariant.rest ∙ c.next_of-at.ensures in
    let head = subst (λ (cs : List (ℕ × ℕ)). AreChanges c.numbers.low c.args.len cs) dropped c.numbers.invariant.behind in
    let above : c.numbers.low ≤ c.next_of-at.result.0 = head.0 in
    let below : c.next_of-at.result.0 < c.args.len = head.1 in
    let next_drop = drop_next c.args.changes.items c.numbers.k c.next_of-at.result (into_iter_items c.next_of-at.new.rest) dropped in
    let next_take = take_next c.args.changes.items c.numbers.k c.next_of-at.result (into_iter_items c.next_of-at.new.rest) dropped in
    let before_at = wider 0 c.numbers.low c.next_of-at.result.0 (take c.numbers.k c.args.changes.items) above c.numbers.invariant.before in
    let long = length_changed (numbers_in c.args.len c.args.tree.now.1) (take c.numbers.k c.args.changes.items) in
    let within : c.next_of-at.result.0 < length (changed (numbers_in c.args.len c.args.tree.now.1) (take c.numbers.k c.args.changes.items)) = omega (arith, long, c.requires.len_is) in
    let now : changed (numbers_in c.args.len c.args.tree.now.1) (take (c.numbers.k + 1) c.args.changes.items) ≡ slice_set (changed (numbers_in c.args.len c.args.tree.now.1) (take c.numbers.k c.args.changes.items)) c.next_of-at.result.0 c.next_of-at.result.1 = ap (λ (cs : List (ℕ × ℕ)). changed (numbers_in c.args.len c.args.tree.now.1) cs) next_take ∙ changed_push (numbers_in c.args.len c.args.tree.now.1) 0 c.next_of-at.result.0 (take c.numbers.k c.args.changes.items) c.next_of-at.result.1 before_at in
    let chunk : c.next_of-at.result.0 / 4 + 1 ≡ (c.next_of-at.result.0 + 1 + 3) / 4 = omega arith in
    let after : suc c.next_of-at.result.0 ≡ c.next_of-at.result.0 + 1 = omega arith in
    let few = c.numbers.invariant.few in
    let more = c.in_ok-add_number.ensures.few in
    record {
      rest = sym next_drop;
      made = c.in_ok-add_number.ensures.made (changed (numbers_in c.args.len c.args.tree.now.1) (take c.numbers.k c.args.changes.items)) within c.numbers.invariant.made ∙ ap packed (sym now);
      places = subst (λ (n : ℕ). AreChanges 0 n c.add_number.new.chunks.items) chunk c.in_ok-add_number.ensures.places;
      before = subst (λ (cs : List (ℕ × ℕ)). AreChanges 0 (c.next_of-at.result.0 + 1) cs) (sym next_take) (more_places 0 c.next_of-at.result.0 (take c.numbers.k c.args.changes.items) c.next_of-at.result.1 (omega arith) before_at);
      behind = subst (λ (cs : List (ℕ × ℕ)). AreChanges (c.next_of-at.result.0 + 1) c.args.len cs) (sym next_drop) (subst (λ (n : ℕ). AreChanges n c.args.len (into_iter_items c.next_of-at.new.rest)) after head.2);
      upto = omega arith;
      few = omega arith;
      within = subst (λ (xs : List ℕ). AllByRecursion uint64.Within xs) (sym now) (set_below (changed (numbers_in c.args.len c.args.tree.now.1) (take c.numbers.k c.args.changes.items)) c.next_of-at.result.0 c.next_of-at.result.1 within c.numbers.invariant.within c.in_ok-add_number.ensures.number);
    }

pub returns-clause-places : goal.returns-clause-places
returns-clause-places c =
    wider 0 ((c.numbers.low + 3) / 4) (length c.args.tree.now.1) c.numbers.chunks.items (omega (arith, c.numbers.invariant.upto, ap length c.requires.packs, length_packed (numbers_in c.args.len c.args.tree.now.1), c.requires.len_is)) c.numbers.invariant.places

pub returns-clause-made : goal.returns-clause-made
returns-clause-made c =
    let all = take_all c.numbers.k c.args.changes.items (omega (arith, c.numbers-test.false, c.len-count.ensures)) in
    c.numbers.invariant.made ∙ ap (λ (cs : List (ℕ × ℕ)). packed (changed (numbers_in c.args.len c.args.tree.now.1) cs)) all

pub returns-clause-within : goal.returns-clause-within
returns-clause-within c =
    let all = take_all c.numbers.k c.args.changes.items (omega (arith, c.numbers-test.false, c.len-count.ensures)) in
    subst (λ (cs : List (ℕ × ℕ)). AllByRecursion uint64.Within (changed (numbers_in c.args.len c.args.tree.now.1) cs)) all c.numbers.invariant.within

pub next_of-at-requires : goal.next_of-at-requires
next_of-at-requires c = omega (arith, c.numbers-test.true, c.len-count.ensures, ap length c.numbers.invariant.rest, length-drop c.numbers.k c.args.changes.items)
