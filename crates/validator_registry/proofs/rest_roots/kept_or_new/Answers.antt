-- What is kept is that of each validator that is alike.
use Rattle.std.proofs.Common.{rules, ◌∙◌, sym}
use Rattle.beacon_types.proofs.Lanes.{status_of_alike, epochs_of_alike}
use Rattle.validator_registry.specs.inside.Groups.{validator_of}
use Rattle.validator_registry.proofs.rest_roots.kept_or_new.Goals as goal

pub returns-then-is_alike-clause-status : goal.returns-then-is_alike-clause-status
returns-then-is_alike-clause-status c =
    c.in-Some.roots.status_is ∙ sym (status_of_alike (validator_of c.args.member.now c.args.balance) c.in-Some.roots.validator (c.is_alike.ensures.0 (search rules)))

pub returns-then-is_alike-clause-epochs : goal.returns-then-is_alike-clause-epochs
returns-then-is_alike-clause-epochs c =
    c.in-Some.roots.epochs_is ∙ sym (epochs_of_alike (validator_of c.args.member.now c.args.balance) c.in-Some.roots.validator (c.is_alike.ensures.0 (search rules)))
