-- What is kept of the first is that of all of them.
use Rattle.std.proofs.Common.{rules, ◌≡◌, ◌∙◌, sym}
use Rattle.std.proofs.lemmas.List.Elements.{All-weaker}
use Rattle.beacon_types.specs.inside.ValidatorChunks.{IsAlike, status_root, epochs_root}
use Rattle.beacon_types.proofs.Lanes.{status_of_alike, epochs_of_alike}
use Rattle.beacon_types.proofs.validator_roots.write_eight.Goals as goal

pub write_alike-requires-clause-status : goal.write_alike-requires-clause-status
write_alike-requires-clause-status c =
    let roots = c.kept_or_new-roots.result in
    All-weaker (λ v. IsAlike v _) (λ v. status_root v ≡ roots.status) (λ v alike. status_of_alike v _ alike ∙ sym c.kept_or_new-roots.ensures.status)
    c.args.validators.now (c.are_alike.ensures.0 (search rules))

pub write_alike-requires-clause-epochs : goal.write_alike-requires-clause-epochs
write_alike-requires-clause-epochs c =
    let roots = c.kept_or_new-roots.result in
    All-weaker (λ v. IsAlike v _) (λ v. epochs_root v ≡ roots.epochs) (λ v alike. epochs_of_alike v _ alike ∙ sym c.kept_or_new-roots.ensures.epochs)
    c.args.validators.now (c.are_alike.ensures.0 (search rules))
