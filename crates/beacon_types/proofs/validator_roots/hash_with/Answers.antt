-- All pairs are written.
use Rattle.std.proofs.Common.{◌≡◌, ◌∙◌, ℕ, List, [], ◌∷◌, take, map, sym, ap, arith}
use Rattle.std.proofs.lemmas.List.{take_all}
use Rattle.hash_tree.specs.Pairs.{hashes_of}
use Rattle.beacon_types.proofs.Lanes.{hashes_with}
use Rattle.beacon_types.proofs.validator_roots.hash_with.Goals as goal

pub returns : goal.returns
returns c =
    let pair : List ℕ → List (List ℕ) = λ node. node ∷ c.args.behind.now ∷ [] in
    let done : c.pairs.i ≡ 8 = omega arith in
    let all : take c.pairs.i c.args.nodes.now ≡ c.args.nodes.now = take_all c.pairs.i c.args.nodes.now (omega (arith, c.requires.nodes)) in
    let pairs : c.pairs.pairs ≡ map pair c.args.nodes.now =
    sym (take_all c.pairs.i c.pairs.pairs (omega (arith, c.pairs.invariant.room))) ∙ (c.pairs.invariant.so_far ∙ ap (map pair) all) in
    c.hash_pairs.ensures ∙ (ap hashes_of pairs ∙ hashes_with c.args.behind.now c.args.nodes.now)
