-- The nodes of all attestations are written.
use Rattle.std.proofs.Common.{rules, ◌≡◌, ◌∙◌, ◌+◌, ◌-◌, ◌*◌, ℕ, List, ◌++◌, length, take, drop, ap, ap₂, arith}
use Rattle.std.proofs.lemmas.Slice.{take-put_mid, overwrites}
use Rattle.std.proofs.lemmas.List.{take_all}
use Rattle.std.specs.List.{flat_map}
use Rattle.hash_tree.specs.Pairs.{parents}
use Rattle.beacon_types.specs.inside.AttestationChunks.{third_nodes}
use Rattle.beacon_types.proofs.Lanes.{block_more}
use Rattle.beacon_types.proofs.AttestationLanes.{thirds_of, count_firsts, firsts_at, count_seconds, seconds_at}
use Rattle.beacon_types.proofs.attestation_roots.write_third_roots.Goals as goal
use borrow.Rule.Slice.PartMut.{mid_of}

pub returns : goal.returns
returns c =
    let i = c.layer.i in
    let all : take i c.args.attestations.now ≡ c.args.attestations.now = take_all i c.args.attestations.now (omega arith) in
    let nodes : take (6 * length c.args.attestations.now) c.layer.nodes ≡ flat_map third_nodes c.args.attestations.now =
    ap (λ (n : ℕ). take n c.layer.nodes) (omega arith) ∙ (c.layer.invariant.so_far ∙ ap (flat_map third_nodes) all) in
    c.hash_layer.ensures ∙ (ap parents nodes ∙ thirds_of c.args.attestations.now)

pub layer-preserved : goal.layer-preserved
layer-preserved c =
    let i = c.layer.i in
    let whole : length c.write_third_nodes.new.out ≡ 6 = c.write_third_nodes.auto.out ∙ omega (arith, c.layer.invariant.room) in
    record {
      room = search (rules, overwrites);
      so_far =
          take-put_mid (6 * i) (6 * i + 6 - 6 * i) c.layer.nodes c.write_third_nodes.new.out (6 * (i + 1)) (omega arith) (omega (arith, c.layer.invariant.room))
          ∙ (ap₂ (λ (xs ys : List (List ℕ)). xs ++ ys) c.layer.invariant.so_far (c.write_third_nodes.ensures ∙ ap third_nodes c.index-attestations-i.is)
          ∙ block_more third_nodes c.args.attestations.now i c.index-attestations-i.result (omega arith));
    }

pub slice_bounds-write_third_nodes-end : goal.slice_bounds-write_third_nodes-end
slice_bounds-write_third_nodes-end c = omega (arith, ap length c.requires.firsts ∙ count_firsts c.args.attestations.now)

pub write_third_nodes-requires-clause-firsts : goal.write_third_nodes-requires-clause-firsts
write_third_nodes-requires-clause-firsts c =
    let i = c.layer.i in
    let part : mid_of (6 * i) (6 * i + 6 - 6 * i) c.args.firsts.now ≡ take 6 (drop (6 * i) c.args.firsts.now) = search rules in
    part
    ∙ (ap (λ (xs : List (List ℕ)). take 6 (drop (6 * i) xs)) c.requires.firsts
    ∙ firsts_at c.args.attestations.now i c.index-attestations-i.result (omega arith) c.index-attestations-i.is)

pub slice_bounds-write_third_nodes-end-in-layer : goal.slice_bounds-write_third_nodes-end-in-layer
slice_bounds-write_third_nodes-end-in-layer c = omega (arith, ap length c.requires.seconds ∙ count_seconds c.args.attestations.now)

pub write_third_nodes-requires-clause-seconds : goal.write_third_nodes-requires-clause-seconds
write_third_nodes-requires-clause-seconds c =
    let i = c.layer.i in
    let part : mid_of (4 * i) (4 * i + 4 - 4 * i) c.args.seconds.now ≡ take 4 (drop (4 * i) c.args.seconds.now) = search rules in
    part
    ∙ (ap (λ (xs : List (List ℕ)). take 4 (drop (4 * i) xs)) c.requires.seconds
    ∙ seconds_at c.args.attestations.now i c.index-attestations-i.result (omega arith) c.index-attestations-i.is)
