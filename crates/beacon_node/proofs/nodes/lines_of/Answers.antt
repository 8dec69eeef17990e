-- The lines of the nodes, and then those of their pairs.
use Rattle.std.proofs.Common.{◌≡◌, ◌∙◌, ◌+◌, ◌<◌, ◌≤◌, ℕ, List, [], ◌∷◌, ◌++◌, length, get_or, take, map, Result, Ok, ap, ap₂, sym}
use Rattle.std.specs.Prelude.{flat_map}
use Rattle.std.proofs.lemmas.List.{flat_map_more, take_all, take_more}
use Rattle.spec_replay.specs.Run.{End}
use Rattle.beacon_node.specs.declared.node.Delivered.{Delivered}
use Rattle.beacon_node.specs.inside.Nodes.{behind_ones}
use Rattle.beacon_node.proofs.ManyNodes.{both_told}
use Rattle.beacon_node.proofs.nodes.lines_of.Goals as goal

-- a line more
one_more : (nodes : List Delivered) (i : ℕ) (given : Delivered) (lines more new : List ℕ) → i < length nodes → given ≡ get_or nodes i given → lines ≡ flat_map (λ (d : Delivered). d.line.items) (take i nodes) → more ≡ given.line.items
    → new ≡ lines ++ more → new ≡ flat_map (λ (d : Delivered). d.line.items) (take (i + 1) nodes)
one_more nodes i given lines more new low is so_far its joined =
    joined
    ∙ (ap₂ (λ (xs ys : List ℕ). xs ++ ys) so_far its
    ∙ (flat_map_more (λ (d : Delivered). d.line.items) [] (take i nodes) given
    ∙ ap (flat_map (λ (d : Delivered). d.line.items)) (ap (λ (d : Delivered). take i nodes ++ d ∷ []) is ∙ sym (take_more nodes i given low))))

-- all of them, and then those of the pairs
all_joined : (nodes : List Delivered) (i : ℕ) (made lines more part : List ℕ) (pairs : Result (List (List ℕ)) End) → made ≡ lines ++ more → lines ≡ flat_map (λ (d : Delivered). d.line.items) (take i nodes) → length nodes ≤ i → more ≡ part
    → (told : (ls : List (List ℕ)) × (pairs ≡ Ok ls) × (part ≡ flat_map (λ (line : List ℕ). line) ls))
    → (ls : List (List ℕ)) × (behind_ones (map (λ (d : Delivered). d.line.items) nodes) pairs ≡ Ok ls) × (made ≡ flat_map (λ (line : List ℕ). line) ls)
all_joined nodes i made lines more part pairs joined so_far past same told =
    both_told nodes made pairs part told (joined ∙ ap₂ (λ (xs ys : List ℕ). xs ++ ys) (so_far ∙ ap (flat_map (λ (d : Delivered). d.line.items)) (take_all i nodes past)) same)

pub loop-given-init : goal.loop-given-init
loop-given-init c = c.new-lines.ensures.items

pub loop-given-preserved : goal.loop-given-preserved
loop-given-preserved c = one_more c.args.nodes.now c.loop-given.given-index c.given-item.result _ _ _ c.loop-given-test.true c.given-item.is c.loop-given.invariant c.deref.ensures.value c.in-Ok.ensures.items

pub returns-in-Err-clause-told : goal.returns-in-Err-clause-told
returns-in-Err-clause-told c = λ on. absurd cc

pub returns-in-Ok-extend_from_slice-clause-told : goal.returns-in-Ok-extend_from_slice-clause-told
returns-in-Ok-extend_from_slice-clause-told c =
    all_joined c.args.nodes.now c.loop-given.given-index _ _ _ c.in-Ok-pair_lines.pairs.items _ c.in-Ok-extend_from_slice.ensures.items c.loop-given.invariant c.loop-given-test.false (cc) c.in-Ok-pair_lines.ensures.told
