-- All keys are written.
use Rattle.std.proofs.Common.{rules, ◌≡◌, ◌∙◌, ◌+◌, ◌-◌, ◌*◌, ℕ, List, ◌++◌, length, take, sym, ap, ap₂, map, arith}
use Rattle.std.proofs.lemmas.Slice.{take-put_mid, overwrites}
use Rattle.std.proofs.lemmas.List.{take_all}
use Rattle.std.specs.List.{flat_map}
use Rattle.hash_tree.specs.Pairs.{parents}
use Rattle.beacon_types.specs.inside.ValidatorChunks.{key_chunks, root_of_chunks, key_root}
use Rattle.beacon_types.proofs.Lanes.{block_more, root_more, keys_of}
use Rattle.validator_registry.proofs.owners.write_keys.Goals as goal

pub returns : goal.returns
returns c =
    let i = c.keys.i in
    let vs = c.args.validators.now in
    let done : length vs ≡ i = omega arith in
    let all : take i vs ≡ vs = take_all i vs (omega arith) in
    let chunks : take (2 * length vs) c.keys.chunks ≡ flat_map key_chunks vs =
    ap (λ (n : ℕ). take (2 * n) c.keys.chunks) done ∙ (c.keys.invariant.so_far ∙ ap (flat_map key_chunks) all) in
    c.hash_layer.ensures ∙ (ap parents chunks ∙ (keys_of vs ∙ (ap (map root_of_chunks) (sym all) ∙ (c.keys.invariant.roots ∙ ap (map key_root) all))))

pub keys-preserved : goal.keys-preserved
keys-preserved c =
    let i = c.keys.i in
    let pair : length c.write_key.new.out ≡ 2 = c.write_key.auto.out ∙ omega (arith, c.keys.invariant.room, c.requires.few) in
    record {
      room = search (rules, overwrites);
      so_far =
          take-put_mid (2 * i) (2 * i + 2 - 2 * i) c.keys.chunks c.write_key.new.out (2 * (i + 1)) (omega arith) (omega (arith, c.keys.invariant.room, c.requires.few))
          ∙ (ap₂ (λ (xs ys : List (List ℕ)). xs ++ ys) c.keys.invariant.so_far c.write_key.ensures.chunks
          ∙ block_more key_chunks c.args.validators.now i _ (omega arith));
      roots = root_more root_of_chunks key_root c.args.validators.now i _ (omega arith) c.keys.invariant.roots c.write_key.ensures.root;
    }
