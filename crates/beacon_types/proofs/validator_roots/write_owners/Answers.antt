-- The first two chunks of all validators are written.
use Rattle.std.proofs.Common.{rules, ◌≡◌, ◌∙◌, ◌+◌, ◌-◌, ◌*◌, ℕ, List, ◌++◌, length, take, sym, ap, ap₂, arith}
use Rattle.std.proofs.lemmas.Slice.{take-put_mid, overwrites}
use Rattle.std.proofs.lemmas.List.{take_all}
use Rattle.std.specs.List.{flat_map}
use Rattle.hash_tree.specs.Pairs.{parents}
use Rattle.beacon_types.specs.inside.ValidatorChunks.{owner_chunks}
use Rattle.beacon_types.proofs.Lanes.{block_more, owners_of}
use Rattle.beacon_types.proofs.validator_roots.write_owners.Goals as goal

pub returns : goal.returns
returns c =
    let done : c.owners.i ≡ 8 = omega arith in
    let all : take c.owners.i c.args.validators.now ≡ c.args.validators.now = take_all c.owners.i c.args.validators.now (omega (arith, c.requires.validators)) in
    let chunks : c.owners.chunks ≡ flat_map owner_chunks c.args.validators.now =
    sym (take_all (2 * c.owners.i) c.owners.chunks (omega (arith, c.owners.invariant.room))) ∙ (c.owners.invariant.so_far ∙ ap (flat_map owner_chunks) all) in
    c.hash_layer.ensures ∙ (ap parents chunks ∙ owners_of c.args.validators.now)

pub owners-preserved : goal.owners-preserved
owners-preserved c =
    let i = c.owners.i in
    let pair : length c.write_owner.new.out ≡ 2 = c.write_owner.auto.out ∙ omega (arith, c.owners.invariant.room) in
    record {
      room = search (rules, overwrites);
      so_far =
          take-put_mid (2 * i) (2 * i + 2 - 2 * i) c.owners.chunks c.write_owner.new.out (2 * (i + 1)) (omega arith) (omega (arith, c.owners.invariant.room))
          ∙ (ap₂ (λ (xs ys : List (List ℕ)). xs ++ ys) c.owners.invariant.so_far c.write_owner.ensures
          ∙ block_more owner_chunks c.args.validators.now i _ (omega (arith, c.requires.validators)));
    }
