-- What is kept of the first is that of all of them.
use Rattle.std.proofs.Common.{rules, ◌≡◌, ◌∙◌, ℕ, List, length, sym, ap, arith}
use Rattle.std.proofs.lemmas.List.Elements.{All-weaker, same_from_all_zip}
use Rattle.std.specs.Array.{AllZipBelow}
use Rattle.beacon_types.specs.inside.ValidatorChunks.{IsAlike, status_root, epochs_root}
use Rattle.beacon_types.proofs.Lanes.{status_of_alike, epochs_of_alike}
use Rattle.validator_registry.specs.inside.Groups.{validators_of}
use Rattle.validator_registry.proofs.MemberRoots.{count_of, one_for_all, epochs_of_members}
use Rattle.validator_registry.proofs.roots.write_rests.Goals as goal

-- a chunk that is another's clone is that
same_chunk : (x y : List ℕ) → AllZipBelow (λ (a b : ℕ). b ≡ a) x y 32 → y ≡ x
same_chunk x y clone = same_from_all_zip (λ (a b : ℕ). b ≡ a) x y clone.whole (λ a b e. e)

pub returns-then-are_alike-clause-statuses : goal.returns-then-are_alike-clause-statuses
returns-then-are_alike-clause-statuses c =
    let members = c.args.members.now in
    let validators = validators_of members c.args.balances.now in
    let roots = c.kept_or_new-roots.result in
    let first = c.validator_with.result in
    let is : status_root first ≡ roots.status = ap status_root c.validator_with.ensures ∙ sym c.kept_or_new-roots.ensures.status in
    c.fill.ensures.after (same_chunk roots.status)
    ∙ one_for_all status_root roots.status validators (length c.args.statuses.now) (omega (arith, count_of members c.args.balances.now c.requires.balances, c.requires.statuses))
    (All-weaker (λ v. IsAlike v first) (λ v. status_root v ≡ roots.status) (λ v alike. status_of_alike v first alike ∙ is) validators (c.are_alike.ensures.0 (search rules)))

pub returns-then-are_alike-clause-epochs : goal.returns-then-are_alike-clause-epochs
returns-then-are_alike-clause-epochs c =
    let members = c.args.members.now in
    let validators = validators_of members c.args.balances.now in
    let roots = c.kept_or_new-roots.result in
    let first = c.validator_with.result in
    let is : epochs_root first ≡ roots.epochs = ap epochs_root c.validator_with.ensures ∙ sym c.kept_or_new-roots.ensures.epochs in
    c.fill-then-are_alike.ensures.after (same_chunk roots.epochs)
    ∙ one_for_all epochs_root roots.epochs validators (length c.args.epochs.now) (omega (arith, count_of members c.args.balances.now c.requires.balances, c.requires.epochs))
    (All-weaker (λ v. IsAlike v first) (λ v. epochs_root v ≡ roots.epochs) (λ v alike. epochs_of_alike v first alike ∙ is) validators (c.are_alike.ensures.0 (search rules)))

pub returns-else-are_alike-clause-epochs : goal.returns-else-are_alike-clause-epochs
returns-else-are_alike-clause-epochs c = c.write_epochs.ensures ∙ epochs_of_members c.args.members.now c.args.balances.now c.requires.balances
