use Rattle.std.proofs.Common.{◌∙◌, ap, refl}
use Rattle.block_array.specs.PlainArray.{PlainArray}
use Rattle.spec_fork_choice.specs.Store.{Store}
use Rattle.fork_store.proofs.Silences.{store_silenced, array_silenced, silences_fit, silences_unset}
use Rattle.fork_store.proofs.Voting.{votes_whole, same_array}
use Rattle.fork_store.proofs.Stays.{stop_leaves}
use Rattle.fork_store.proofs.on_attester_slashing.add_equivocating.Goals as goal

pub returns-clause-exact : goal.returns-clause-exact
returns-clause-exact c =
    store_silenced c.args.store.now c.args.array.now c.reserve.new.self c.in_ok-places.places c.requires.array_of c.in_ok-reserve.ensures c.silence_all.new.array c.args.indices.now
    c.silence_all.ensures c.take_votes.new.self c.take_votes.ensures

pub returns-clause-whole : goal.returns-clause-whole
returns-clause-whole c =
    votes_whole c.args.store.now c.take_votes.new.self c.args.array.now c.silence_all.new.array c.args.ready.now _ _ c.requires c.take_votes.ensures
    (array_silenced c.args.store.now c.args.array.now c.reserve.new.self c.in_ok-places.places c.requires.array_of c.in_ok-reserve.ensures c.silence_all.new.array c.args.indices.now
    c.silence_all.ensures c.take_votes.new.self c.take_votes.ensures)

pub returns-clause-balances_set_stays : goal.returns-clause-balances_set_stays
returns-clause-balances_set_stays c =
    ap (λ (a : PlainArray). a.balances_set) c.silence_all.ensures ∙ silences_unset c.reserve.new.self c.args.indices.now ∙ ap (λ (a : PlainArray). a.balances_set) c.in_ok-reserve.ensures

pub silence_all-requires : goal.silence_all-requires
silence_all-requires c =
    silences_fit c.args.store.now c.args.array.now c.reserve.new.self c.in_ok-places.places c.requires.array_of c.in_ok-reserve.ensures c.args.indices.now c.in_ok-places.ensures

pub returns-in_err-reserve-clause-whole : goal.returns-in_err-reserve-clause-whole
returns-in_err-reserve-clause-whole c = same_array c.args.store.now c.args.array.now c.reserve.new.self c.args.ready.now c.requires c.in_err-reserve.ensures

pub returns-in_err-reserve-clause-balances_set_stays : goal.returns-in_err-reserve-clause-balances_set_stays
returns-in_err-reserve-clause-balances_set_stays c = ap (λ (a : PlainArray). a.balances_set) c.in_err-reserve.ensures

pub returns-clause-config : goal.returns-clause-config
returns-clause-config c = ap (λ (s : Store). s.config) c.take_votes.ensures

pub returns-clause-blocks : goal.returns-clause-blocks
returns-clause-blocks c = ap (λ (s : Store). s.blocks) c.take_votes.ensures

pub returns-in_err-places-clause-stays : goal.returns-in_err-places-clause-stays
returns-in_err-places-clause-stays c = stop_leaves _ refl

pub returns-in_err-reserve-clause-stays : goal.returns-in_err-reserve-clause-stays
returns-in_err-reserve-clause-stays c = stop_leaves _ c.in_err-reserve.ensures
