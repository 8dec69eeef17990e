-- The nodes of all attestations are written.
use Rattle.std.proofs.Common.{rules, ◌≡◌, ◌∙◌, ◌+◌, ◌-◌, ◌*◌, ℕ, List, ◌++◌, length, take, drop, ap, ap₂, arith}
use Rattle.std.proofs.lemmas.Slice.{take-put_mid, overwrites}
use Rattle.std.proofs.lemmas.List.{take_all}
use Rattle.std.specs.List.{flat_map}
use Rattle.hash_tree.specs.Pairs.{parents}
use Rattle.beacon_types.specs.inside.AttestationChunks.{second_nodes}
use Rattle.beacon_types.proofs.Lanes.{block_more}
use Rattle.beacon_types.proofs.AttestationLanes.{seconds_of, count_firsts, firsts_at}
use Rattle.beacon_types.proofs.attestation_roots.write_second_roots.Goals as goal
use borrow.Rule.Slice.PartMut.{mid_of}

pub returns : goal.returns
returns c =
    let i = c.layer.i in
    let all : take i c.args.attestations.now ≡ c.args.attestations.now = take_all i c.args.attestations.now (omega arith) in
    let nodes : take (8 * length c.args.attestations.now) c.layer.nodes ≡ flat_map second_nodes c.args.attestations.now =
    ap (λ (n : ℕ). take n c.layer.nodes) (omega arith) ∙ (c.layer.invariant.so_far ∙ ap (flat_map second_nodes) all) in
    c.hash_layer.ensures ∙ (ap parents nodes ∙ seconds_of c.args.attestations.now)

pub layer-preserved : goal.layer-preserved
layer-preserved c =
    let i = c.layer.i in
    let whole : length c.write_second_nodes.new.out ≡ 8 = c.write_second_nodes.auto.out ∙ omega (arith, c.layer.invariant.room) in
    record {
      room = search (rules, overwrites);
      so_far =
          take-put_mid (8 * i) (8 * i + 8 - 8 * i) c.layer.nodes c.write_second_nodes.new.out (8 * (i + 1)) (omega arith) (omega (arith, c.layer.invariant.room))
          ∙ (ap₂ (λ (xs ys : List (List ℕ)). xs ++ ys) c.layer.invariant.so_far (c.write_second_nodes.ensures ∙ ap second_nodes c.index-attestations-i.is)
          ∙ block_more second_nodes c.args.attestations.now i c.index-attestations-i.result (omega arith));
    }

pub slice_bounds-write_second_nodes-end : goal.slice_bounds-write_second_nodes-end
slice_bounds-write_second_nodes-end c = omega (arith, ap length c.requires.firsts ∙ count_firsts c.args.attestations.now)

pub write_second_nodes-requires-clause-firsts : goal.write_second_nodes-requires-clause-firsts
write_second_nodes-requires-clause-firsts c =
    let i = c.layer.i in
    let part : mid_of (6 * i) (6 * i + 6 - 6 * i) c.args.firsts.now ≡ take 6 (drop (6 * i) c.args.firsts.now) = search rules in
    part
    ∙ (ap (λ (xs : List (List ℕ)). take 6 (drop (6 * i) xs)) c.requires.firsts
    ∙ firsts_at c.args.attestations.now i c.index-attestations-i.result (omega arith) c.index-attestations-i.is)
