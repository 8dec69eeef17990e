-- The nodes of all attestations are written.
use Rattle.std.proofs.Common.{rules, ◌≡◌, ◌∙◌, ◌+◌, ◌-◌, ◌*◌, ℕ, List, ◌++◌, length, take, drop, ap, ap₂, arith}
use Rattle.std.proofs.lemmas.Slice.{take-put_mid, overwrites}
use Rattle.std.proofs.lemmas.List.{take_all}
use Rattle.std.specs.List.{flat_map}
use Rattle.hash_tree.specs.Pairs.{parents}
use Rattle.beacon_types.specs.inside.AttestationChunks.{field_chunks}
use Rattle.beacon_types.proofs.Lanes.{block_more}
use Rattle.beacon_types.proofs.AttestationLanes.{halves_from, count_seconds, seconds_at, count_fourths, fourths_at}
use Rattle.beacon_types.proofs.attestation_roots.write_halves.Goals as goal
use borrow.Rule.Slice.PartMut.{mid_of}

pub returns : goal.returns
returns c =
    let i = c.layer.i in
    let all : take i c.args.attestations.now ≡ c.args.attestations.now = take_all i c.args.attestations.now (omega arith) in
    let nodes : take (4 * length c.args.attestations.now) c.layer.nodes ≡ flat_map field_chunks c.args.attestations.now =
    ap (λ (n : ℕ). take n c.layer.nodes) (omega arith) ∙ (c.layer.invariant.so_far ∙ ap (flat_map field_chunks) all) in
    c.hash_layer.ensures ∙ (ap parents nodes ∙ halves_from c.args.attestations.now)

pub layer-preserved : goal.layer-preserved
layer-preserved c =
    let i = c.layer.i in
    let whole : length c.write_fields.new.out ≡ 4 = c.write_fields.auto.out ∙ omega (arith, c.layer.invariant.room) in
    record {
      room = search (rules, overwrites);
      so_far =
          take-put_mid (4 * i) (4 * i + 4 - 4 * i) c.layer.nodes c.write_fields.new.out (4 * (i + 1)) (omega arith) (omega (arith, c.layer.invariant.room))
          ∙ (ap₂ (λ (xs ys : List (List ℕ)). xs ++ ys) c.layer.invariant.so_far (c.write_fields.ensures ∙ ap field_chunks c.index-attestations-i.is)
          ∙ block_more field_chunks c.args.attestations.now i c.index-attestations-i.result (omega arith));
    }

pub slice_bounds-write_fields-end : goal.slice_bounds-write_fields-end
slice_bounds-write_fields-end c = omega (arith, ap length c.requires.seconds ∙ count_seconds c.args.attestations.now)

pub write_fields-requires-clause-seconds : goal.write_fields-requires-clause-seconds
write_fields-requires-clause-seconds c =
    let i = c.layer.i in
    let part : mid_of (4 * i) (4 * i + 4 - 4 * i) c.args.seconds.now ≡ take 4 (drop (4 * i) c.args.seconds.now) = search rules in
    part
    ∙ (ap (λ (xs : List (List ℕ)). take 4 (drop (4 * i) xs)) c.requires.seconds
    ∙ seconds_at c.args.attestations.now i c.index-attestations-i.result (omega arith) c.index-attestations-i.is)

pub slice_bounds-write_fields-end-in-layer : goal.slice_bounds-write_fields-end-in-layer
slice_bounds-write_fields-end-in-layer c = omega (arith, ap length c.requires.fourths ∙ count_fourths c.args.attestations.now)

pub write_fields-requires-clause-fourths : goal.write_fields-requires-clause-fourths
write_fields-requires-clause-fourths c =
    let i = c.layer.i in
    let part : mid_of (2 * i) (2 * i + 2 - 2 * i) c.args.fourths.now ≡ take 2 (drop (2 * i) c.args.fourths.now) = search rules in
    part
    ∙ (ap (λ (xs : List (List ℕ)). take 2 (drop (2 * i) xs)) c.requires.fourths
    ∙ fourths_at c.args.attestations.now i c.index-attestations-i.result (omega arith) c.index-attestations-i.is)
