-- What a tree keeps after a change.
use Rattle.std.proofs.Common.{◌≡◌, ℕ, zero, suc, ◌+◌, ◌-◌, ◌*◌, ◌<◌, ◌≤◌, ◌^◌, inl, inr, List, length, map, max, refl, sym, ap, ◌∙◌, arith}
use Rattle.std.proofs.Math.Pow.{pow_mono}
use Rattle.std.proofs.lemmas.Bool.{cases_lt}
use Rattle.hash_tree.specs.Merkle.{merkle_root}
use Rattle.tree_nodes.specs.Changes.{changed}
use Rattle.tree_nodes.specs.inside.Kept.{IsTree}
use Rattle.tree_nodes.specs.inside.Puts.{put_at, Grows}
use Rattle.tree_nodes.specs.inside.Lifts.{Lifts}
use Rattle.hash_tree.proofs.Halves.{width_halves}
use Rattle.std.proofs.Math.Nat.{suc-mul}
use Rattle.std.proofs.lemmas.List.{length-map}
use Rattle.tree_nodes.proofs.Changes.{length_changed}
use Rattle.tree_nodes.proofs.Puts.{length_put}

-- the widest tree
pub width_low : (depth : ℕ) → depth ≤ 40 → 2 ^ depth ≤ 2 ^ 40
width_low depth low = pow_mono low

pub below_depth : (low depth at : ℕ) → 2 ^ low ≤ at → at < 2 ^ depth → low < depth
below_depth low depth at full room =
    elim (cases_lt low depth) as (λ _. low < depth) [
      | inl less ↦ less
      | inr more ↦ let wide : 2 ^ depth ≤ 2 ^ low = pow_mono more in absurd (omega arith)
    ]

pub grown_within : (low depth at grown : ℕ) → Grows low at grown → low ≤ depth → at < 2 ^ depth → grown ≤ depth
grown_within low depth at grown g order room =
    elim (cases_lt at (2 ^ low)) as (λ _. grown ≤ depth) [
      | inl inside ↦ let same : grown ≡ low = g.stays inside in omega arith
      | inr behind ↦ let more : grown ≡ low + 1 = g.grows behind in let less : low < depth = below_depth low depth at behind room in omega arith
    ]

-- a tree after an item is put into it
pub tree_after : {A : Type 0} (root_of : A → List ℕ) (node new : ℕ × List A) (low grown depth len next at : ℕ) (item : A) (old_top top sub : List ℕ) → IsTree root_of node low depth len old_top → new ≡ (grown, put_at node.1 at item) → Grows low at grown → at < 2 ^ depth → at ≤ len → next ≡ max len (at + 1) → sub ≡ merkle_root new.0 (map root_of new.1) → Lifts grown depth sub top → IsTree root_of new grown depth next top
tree_after root_of node new low grown depth len next at item old_top top sub h is g room place next_is sub_is lifts =
    let long : length new.1 ≡ max (length node.1) (at + 1) = ap (λ (v : ℕ × List _). length v.1) is ∙ length_put node.1 at item (omega (arith, h.len_is)) in
    let len_is : next ≡ length new.1 = omega (arith, h.len_is) in
    let deep : new.0 ≡ grown = ap (λ (v : ℕ × List _). v.0) is in
    let had = h.room in
    let least = h.least in
    let one : 2 ^ 0 ≤ 2 ^ low = pow_mono {i = 0} {j = low} (omega arith) in
    let wide : (next ≤ 2 ^ grown) × (2 ^ grown ≤ 2 * next + 1) = elim (cases_lt at (2 ^ low)) as (λ _. (next ≤ 2 ^ grown) × (2 ^ grown ≤ 2 * next + 1)) [
      | inl inside ↦ let same : 2 ^ grown ≡ 2 ^ low = ap (λ (d : ℕ). 2 ^ d) (g.stays inside) in (omega arith, omega arith)
      | inr behind ↦ let twice : 2 ^ grown ≡ 2 ^ low + 2 ^ low = width_halves grown low (g.grows behind ∙ omega arith) in (omega arith, omega arith)
    ] in
    record {
      node_depth = deep;
      order = grown_within low depth at grown g h.order room;
      deep = h.deep;
      len_is = len_is;
      room = wide.0;
      least = wide.1;
      fits = omega (arith, h.fits);
      top_is = lifts (map root_of new.1) (omega (arith, length-map new.1 root_of, wide.0)) (sub_is ∙ ap (λ (d : ℕ). merkle_root d (map root_of new.1)) deep);
    }

-- and with as many other items
pub tree_after_all : {A : Type 0} (root_of : A → List ℕ) (node new : ℕ × List A) (low depth len : ℕ) (items : List A) (old_top top sub : List ℕ) → IsTree root_of node low depth len old_top → length items ≡ length node.1 → new ≡ (low, items) → sub ≡ merkle_root new.0 (map root_of new.1) → Lifts low depth sub top → IsTree root_of new low depth len top
tree_after_all root_of node new low depth len items old_top top sub h same is sub_is lifts =
    let deep : new.0 ≡ low = ap (λ (v : ℕ × List _). v.0) is in
    let long : length new.1 ≡ length node.1 = ap (λ (v : ℕ × List _). length v.1) is ∙ same in
    let room = h.room in
    record {
      node_depth = deep;
      order = h.order;
      deep = h.deep;
      len_is = h.len_is ∙ sym long;
      room = h.room;
      least = h.least;
      fits = h.fits;
      top_is = lifts (map root_of new.1) (omega (arith, length-map new.1 root_of, h.len_is)) (sub_is ∙ ap (λ (d : ℕ). merkle_root d (map root_of new.1)) deep);
    }

-- and after many are changed
pub tree_after_many : {A : Type 0} (root_of : A → List ℕ) (node new : ℕ × List A) (low depth len : ℕ) (changes : List (ℕ × A)) (old_top top sub : List ℕ) → IsTree root_of node low depth len old_top → new ≡ (low, changed node.1 changes) → sub ≡ merkle_root new.0 (map root_of new.1) → Lifts low depth sub top → IsTree root_of new low depth len top
tree_after_many root_of node new low depth len changes old_top top sub h is sub_is lifts =
    tree_after_all root_of node new low depth len (changed node.1 changes) old_top top sub h (length_changed node.1 changes) is sub_is lifts

-- a tree gets no lower by more items
pub no_lower : (low grown len next : ℕ) → 2 ^ low ≤ 2 * len + 1 → len < next → next ≤ 2 ^ grown → low ≤ grown
no_lower low grown len next least more room =
    elim (cases_lt grown low) as (λ _. low ≤ grown) [
      | inl less ↦
          let wide : 2 ^ suc grown ≤ 2 ^ low = pow_mono (let above : suc grown ≤ low = omega arith in above) in
          let twice : 2 ^ suc grown ≡ 2 ^ grown + 2 ^ grown = width_halves (suc grown) grown refl in
          absurd (omega arith)
      | inr order ↦ order
    ]

mul_wider : (n low depth : ℕ) → low ≤ depth → n * low ≤ n * depth
mul_wider zero low depth h = omega arith
mul_wider (suc n) low depth h = omega (arith, suc-mul n low, suc-mul n depth, mul_wider n low depth h)

mul_fewer : (few many depth : ℕ) → few ≤ many → few * depth ≤ many * depth
mul_fewer zero many depth less = omega arith
mul_fewer (suc few) zero depth less = absurd (omega arith)
mul_fewer (suc few) (suc many) depth less = omega (arith, suc-mul few depth, suc-mul many depth, mul_fewer few many depth (omega arith))

pub many_steps : (n low depth start now : ℕ) → 0 < n → low ≤ depth → now ≤ start + n * low → now + (depth - low) ≤ start + n * depth
many_steps zero low depth start now some order work = absurd (omega arith)
many_steps (suc n) low depth start now some order work = omega (arith, suc-mul n low, suc-mul n depth, mul_wider n low depth order)

pub fewer_steps : (n low depth start now : ℕ) → low ≤ depth → now ≤ start + n * low → now ≤ start + n * depth
fewer_steps n low depth start now order work = omega (arith, mul_wider n low depth order)

-- fewer items take fewer steps
pub fewer_items : (few many depth start now : ℕ) → few ≤ many → now ≤ start + few * depth → now ≤ start + many * depth
fewer_items few many depth start now less work = omega (arith, mul_fewer few many depth less)
