-- The nodes of all attestations are written.
use Rattle.std.proofs.Common.{rules, ◌≡◌, ◌∙◌, ◌+◌, ◌-◌, ◌*◌, ℕ, List, ◌++◌, length, take, drop, ap, ap₂, arith}
use Rattle.std.proofs.lemmas.Slice.{take-put_mid, overwrites}
use Rattle.std.proofs.lemmas.List.{take_all}
use Rattle.std.specs.List.{flat_map}
use Rattle.hash_tree.specs.Pairs.{parents}
use Rattle.beacon_types.specs.inside.AttestationChunks.{fourth_nodes}
use Rattle.beacon_types.proofs.Lanes.{block_more}
use Rattle.beacon_types.proofs.AttestationLanes.{fourths_of, count_thirds, thirds_at}
use Rattle.beacon_types.proofs.attestation_roots.write_fourth_roots.Goals as goal
use borrow.Rule.Slice.PartMut.{mid_of}

pub returns : goal.returns
returns c =
    let i = c.layer.i in
    let all : take i c.args.attestations.now ≡ c.args.attestations.now = take_all i c.args.attestations.now (omega arith) in
    let nodes : take (4 * length c.args.attestations.now) c.layer.nodes ≡ flat_map fourth_nodes c.args.attestations.now =
    ap (λ (n : ℕ). take n c.layer.nodes) (omega arith) ∙ (c.layer.invariant.so_far ∙ ap (flat_map fourth_nodes) all) in
    c.hash_layer.ensures ∙ (ap parents nodes ∙ fourths_of c.args.attestations.now)

pub layer-preserved : goal.layer-preserved
layer-preserved c =
    let i = c.layer.i in
    let whole : length c.write_fourth_nodes.new.out ≡ 4 = c.write_fourth_nodes.auto.out ∙ omega (arith, c.layer.invariant.room) in
    record {
      room = search (rules, overwrites);
      so_far =
          take-put_mid (4 * i) (4 * i + 4 - 4 * i) c.layer.nodes c.write_fourth_nodes.new.out (4 * (i + 1)) (omega arith) (omega (arith, c.layer.invariant.room))
          ∙ (ap₂ (λ (xs ys : List (List ℕ)). xs ++ ys) c.layer.invariant.so_far (c.write_fourth_nodes.ensures ∙ ap fourth_nodes c.index-attestations-i.is)
          ∙ block_more fourth_nodes c.args.attestations.now i c.index-attestations-i.result (omega arith));
    }

pub slice_bounds-write_fourth_nodes-end : goal.slice_bounds-write_fourth_nodes-end
slice_bounds-write_fourth_nodes-end c = omega (arith, ap length c.requires.thirds ∙ count_thirds c.args.attestations.now)

pub write_fourth_nodes-requires-clause-thirds : goal.write_fourth_nodes-requires-clause-thirds
write_fourth_nodes-requires-clause-thirds c =
    let i = c.layer.i in
    let part : mid_of (3 * i) (3 * i + 3 - 3 * i) c.args.thirds.now ≡ take 3 (drop (3 * i) c.args.thirds.now) = search rules in
    part
    ∙ (ap (λ (xs : List (List ℕ)). take 3 (drop (3 * i) xs)) c.requires.thirds
    ∙ thirds_at c.args.attestations.now i c.index-attestations-i.result (omega arith) c.index-attestations-i.is)
