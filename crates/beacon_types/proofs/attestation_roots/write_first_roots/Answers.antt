-- The nodes of all attestations are written.
use Rattle.std.proofs.Common.{rules, ◌≡◌, ◌∙◌, ◌+◌, ◌-◌, ◌*◌, ℕ, List, ◌++◌, length, take, ap, ap₂, arith}
use Rattle.std.proofs.lemmas.Slice.{take-put_mid, overwrites}
use Rattle.std.proofs.lemmas.List.{take_all}
use Rattle.std.specs.List.{flat_map}
use Rattle.hash_tree.specs.Pairs.{parents}
use Rattle.beacon_types.specs.inside.AttestationChunks.{first_nodes}
use Rattle.beacon_types.proofs.Lanes.{block_more}
use Rattle.beacon_types.proofs.AttestationLanes.{firsts_of}
use Rattle.beacon_types.proofs.attestation_roots.write_first_roots.Goals as goal

pub returns : goal.returns
returns c =
    let i = c.layer.i in
    let all : take i c.args.attestations.now ≡ c.args.attestations.now = take_all i c.args.attestations.now (omega arith) in
    let nodes : take (12 * length c.args.attestations.now) c.layer.nodes ≡ flat_map first_nodes c.args.attestations.now =
    ap (λ (n : ℕ). take n c.layer.nodes) (omega arith) ∙ (c.layer.invariant.so_far ∙ ap (flat_map first_nodes) all) in
    c.hash_layer.ensures ∙ (ap parents nodes ∙ firsts_of c.args.attestations.now)

pub layer-preserved : goal.layer-preserved
layer-preserved c =
    let i = c.layer.i in
    let whole : length c.write_first_nodes.new.out ≡ 12 = c.write_first_nodes.auto.out ∙ omega (arith, c.layer.invariant.room) in
    record {
      room = search (rules, overwrites);
      so_far =
          take-put_mid (12 * i) (12 * i + 12 - 12 * i) c.layer.nodes c.write_first_nodes.new.out (12 * (i + 1)) (omega arith) (omega (arith, c.layer.invariant.room))
          ∙ (ap₂ (λ (xs ys : List (List ℕ)). xs ++ ys) c.layer.invariant.so_far (c.write_first_nodes.ensures ∙ ap first_nodes c.index-attestations-i.is)
          ∙ block_more first_nodes c.args.attestations.now i c.index-attestations-i.result (omega arith));
    }
