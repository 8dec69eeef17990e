-- What is hashed of each validator alone, with what is hashed of all of them.
use Rattle.std.proofs.Common.{◌∙◌, List, ℕ, ◌++◌, map, ap}
use Rattle.hash_tree.specs.Merkle.{hash}
use Rattle.beacon_types.proofs.Lanes.{roots_of_alike}
use Rattle.beacon_types.proofs.validator_roots.write_alike.Goals as goal

pub returns : goal.returns
returns c =
    let kept = c.args.kept.now in
    let with : List ℕ → List ℕ → List ℕ = λ behind node. hash (node ++ behind) in
    c.hash_with-2.ensures
    ∙ (ap (map (with kept.epochs)) (c.hash_with.ensures ∙ ap (map (with kept.status)) c.write_owners.ensures)
    ∙ roots_of_alike kept.status kept.epochs c.args.validators.now c.requires.status c.requires.epochs)
