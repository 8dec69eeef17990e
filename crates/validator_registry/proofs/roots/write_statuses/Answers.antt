-- One more pair is written, or all of them are.
use Rattle.std.proofs.Common.{◌≡◌, ◌∙◌, ℕ, List, [], ◌∷◌, ◌++◌, length, get_or, take, map, sym, ap, ap₂, arith}
use Rattle.std.proofs.lemmas.List.{length-set, take_all, take_more_set}
use Rattle.hash_tree.specs.Merkle.{padded_chunk, bool_bytes}
use Rattle.hash_tree.specs.Pairs.{hashes_of}
use Rattle.validator_registry.specs.declared.member.Member.{Member}
use Rattle.validator_registry.specs.inside.Groups.{validator_of, validators_of}
use Rattle.validator_registry.proofs.MemberRoots.{count_of, one_more, status_pair, statuses_of}
use Rattle.validator_registry.proofs.roots.write_statuses.Goals as goal

pub statuses-preserved : goal.statuses-preserved
statuses-preserved c =
    let i = c.statuses.i in
    let member = c.index-members-i.result in
    let pair : List (List ℕ) = c.root.result ∷ c.root-in-statuses.result ∷ [] in
    let is : pair ≡ status_pair (validator_of member (get_or c.args.balances.now i 0)) =
    ap₂ (λ (a b : List ℕ). a ∷ b ∷ []) c.root.ensures
    (c.root-in-statuses.ensures ∙ ap (λ (m : Member). padded_chunk (bool_bytes m.validator.slashed)) (sym c.index-members-i.is)) in
    record {
      room = length-set c.statuses.pairs i pair ∙ c.statuses.invariant.room;
      so_far =
          take_more_set c.statuses.pairs i pair (omega (arith, c.statuses.invariant.room, c.requires.few))
          ∙ (ap₂ (λ (pairs : List (List (List ℕ))) (last : List (List ℕ)). pairs ++ last ∷ []) c.statuses.invariant.so_far is
          ∙ sym (one_more status_pair c.args.members.now c.args.balances.now i member (omega arith) c.requires.balances c.index-members-i.is));
    }

pub returns : goal.returns
returns c =
    let i = c.statuses.i in
    let members = c.args.members.now in
    let validators = validators_of members c.args.balances.now in
    let done : length members ≡ i = omega arith in
    let all : take i validators ≡ validators = take_all i validators (omega (arith, count_of members c.args.balances.now c.requires.balances)) in
    let pairs : take (length members) c.statuses.pairs ≡ map status_pair validators =
    ap (λ (n : ℕ). take n c.statuses.pairs) done ∙ (c.statuses.invariant.so_far ∙ ap (map status_pair) all) in
    c.hash_pairs.ensures ∙ (ap hashes_of pairs ∙ statuses_of validators)
