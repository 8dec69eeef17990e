-- One validator more was looked at, or all of them were.
use Rattle.std.proofs.Common.{◌≡◌, ◌<◌, ◌+◌, length, take, false, refl, rules, sym, ap, subst, ◌∙◌, arith}
use Rattle.std.proofs.lemmas.List.{take_all}
use Rattle.bc_words.specs.Outcome.{Stops, done}
use Rattle.bc_words.proofs.Outcomes.{stops_exactly}
use Rattle.tree_nodes.proofs.Many.{wider}
use Rattle.validator_registry.specs.Registries.{with_balances}
use Rattle.validator_registry.proofs.GroupChanges.{balance_lengths}
use Rattle.spec_epochs.specs.Each.{checked_map, validator_indices}
use Rattle.spec_epochs.specs.ProcessEffectiveBalanceUpdates.{updated_validator}
use Rattle.spec_epochs.proofs.Each.{made_from, made_more, made_ends, made_stops}
use Rattle.epoch_processing.specs.inside.Updates.{with_effective}
use Rattle.epoch_processing.proofs.MadeLeft.{rest_left}
use Rattle.epoch_processing.proofs.Updating.{as_many_read, balance_read, found_read, none_noted, noted_more}
use Rattle.epoch_processing.proofs.process_effective_balance_updates.all_updated.Goals as goal

pub loop-index-init : goal.loop-index-init
unfolding validator_indices
loop-index-init c =
    let state = c.args.state.now in
    record {
      beside = search rules;
      places = search rules;
      made = none_noted (updated_validator state) state.validators 0 (length state.validators) c.new-changes.result.items refl;
    }

pub updated-requires-clause-effective : goal.updated-requires-clause-effective
updated-requires-clause-effective c = balance_read c.args.stakes.now c.args.state.now.validators c.requires c.loop-index.index _ c.loop-index-test.true

pub loop-index-preserved : goal.loop-index-preserved
loop-index-preserved c =
    let state = c.args.state.now in
    let i = c.loop-index.index in
    let n = length state.validators in
    let before = c.loop-index.changes.items in
    let after = c.note.new.changes.items in
    let another = c.in_ok-another.another in
    let within : i < n = omega (arith, c.loop-index-test.true, as_many_read c.args.stakes.now state.validators c.requires) in
    let here = found_read c.args.stakes.now state.validators c.requires i (record { effective_balance = 0; eligible = false; slashed = false }) c.loop-index-test.true in
    let more = noted_more state.validators i before after here.validator another c.loop-index.invariant.places here.here c.in_ok-note.ensures in
    let made : updated_validator state i ≡ done (with_effective here.validator another) = c.in_ok-another.ensures here.validator here.here in
    record {
      beside = c.next_balance-balance.ensures.others ∙ rest_left state.balances i c.loop-index.balances c.loop-index.invariant.beside;
      places = more.0;
      made =
          ap (made_from (updated_validator state) n (i + 1)) more.1
          ∙ sym (made_more (updated_validator state) n i (take i (with_balances state.validators before)) (with_effective here.validator another) within made)
          ∙ c.loop-index.invariant.made;
    }

pub returns-in_err-another-clause-exact : goal.returns-in_err-another-clause-exact
returns-in_err-another-clause-exact c =
    let state = c.args.state.now in
    let stop = c.in_err-another.field-0.0 in
    let i = c.loop-index.index in
    let n = length state.validators in
    let within : i < n = omega (arith, c.loop-index-test.true, as_many_read c.args.stakes.now state.validators c.requires) in
    let all : Stops stop (checked_map (updated_validator state) (validator_indices state)) =
    subst (Stops stop) c.loop-index.invariant.made
    (made_stops (updated_validator state) n i (take i (with_balances state.validators c.loop-index.changes.items)) stop within (stops_exactly stop (updated_validator state i) c.in_err-another.ensures)) in
    search (rules, all)

pub returns-clause-exact : goal.returns-clause-exact
returns-clause-exact c =
    let state = c.args.state.now in
    let i = c.loop-index.index in
    let n = length state.validators in
    let becomes = with_balances state.validators c.loop-index.changes.items in
    let count = as_many_read c.args.stakes.now state.validators c.requires in
    sym c.loop-index.invariant.made
    ∙ made_ends (updated_validator state) n i (take i becomes) (omega (arith, count, c.loop-index-test.false))
    ∙ ap done (take_all i becomes (omega (arith, count, c.loop-index-test.false, balance_lengths state.validators c.loop-index.changes.items)))

pub returns-clause-places : goal.returns-clause-places
returns-clause-places c =
    let count = as_many_read c.args.stakes.now c.args.state.now.validators c.requires in
    wider 0 c.loop-index.index (length c.args.state.now.validators) c.loop-index.changes.items (omega (arith, count, c.loop-index.auto.index-end)) c.loop-index.invariant.places
