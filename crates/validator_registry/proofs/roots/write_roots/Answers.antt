-- The roots of the validators by the three columns below them.
use Rattle.std.proofs.Common.{◌≡◌, ◌∙◌, ℕ, List, length, map, sym, ap, ap₂, arith}
use Rattle.std.proofs.lemmas.List.{length-map, take_at}
use Rattle.std.proofs.lemmas.Simd.{length-zip2}
use Rattle.std.specs.Simd.Lanes.{zip2}
use Rattle.beacon_types.specs.Containers.{validator_codec}
use Rattle.beacon_types.specs.inside.ValidatorChunks.{owner_root, status_root, epochs_root}
use Rattle.validator_registry.specs.declared.member.Member.{Member}
use Rattle.validator_registry.specs.inside.Groups.{validators_of}
use Rattle.validator_registry.proofs.MemberRoots.{count_of, none_of_none, joined_hash, roots_of_columns}
use Rattle.validator_registry.proofs.roots.write_roots.Goals as goal

pub returns-then-count-eq0 : goal.returns-then-count-eq0
returns-then-count-eq0 c = none_of_none validator_codec.hash_tree_root c.args.members.now c.args.balances.now c.args.out.now (omega arith) c.requires.out

pub returns : goal.returns
returns c =
    let members = c.args.members.now in
    let validators = validators_of members c.args.balances.now in
    let n = length members in
    let count : length validators ≡ n = count_of members c.args.balances.now c.requires.balances in
    let joined : List (List ℕ) → List (List ℕ) → List (List ℕ) = λ xs ys. zip2 joined_hash xs ys in
    let owners = map (λ (member : Member). owner_root member.validator) members in
    let statuses = map status_root validators in
    let owners_long : length owners ≡ n = length-map members (λ (member : Member). owner_root member.validator) in
    let statuses_long : length statuses ≡ n = length-map validators status_root ∙ count in
    let epochs_long : length c.write_rests.new.epochs ≡ n = ap length c.write_rests.ensures.epochs ∙ (length-map validators epochs_root ∙ count) in
    let halves : c.hash_beside.new.out ≡ joined owners statuses =
    c.hash_beside.ensures
    ∙ ap₂ joined (take_at c.write_owners.new.out _ n (ap length c.write_owners.ensures ∙ owners_long) ∙ c.write_owners.ensures)
    (take_at c.write_rests.new.statuses _ n (ap length c.write_rests.ensures.statuses ∙ statuses_long) ∙ c.write_rests.ensures.statuses) in
    let halves_long : length c.hash_beside.new.out ≡ n =
    ap length halves ∙ (length-zip2 joined_hash owners statuses (owners_long ∙ sym statuses_long) ∙ owners_long) in
    c.hash_beside-2.ensures
    ∙ (ap₂ joined (take_at c.hash_beside.new.out _ n halves_long ∙ halves) (take_at c.write_rests.new.epochs _ n epochs_long ∙ c.write_rests.ensures.epochs)
    ∙ roots_of_columns members c.args.balances.now c.requires.balances)
