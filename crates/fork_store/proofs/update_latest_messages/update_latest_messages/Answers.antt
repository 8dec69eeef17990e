use Rattle.std.proofs.Common.{◌∙◌, ◌<◌, ◌^◌, List, length, ap, refl, subst, sym}
use Rattle.block_array.specs.PlainArray.{PlainArray}
use Rattle.spec_fork_choice.specs.Store.{KeptBlock, Store}
use Rattle.fork_store.proofs.Following.{kept_number}
use Rattle.fork_store.proofs.Voting.{store_voted, array_voted, votes_whole, votes_unset, voter_fits, voters_fit, same_array}
use Rattle.fork_store.proofs.Stays.{stop_leaves}
use Rattle.fork_store.proofs.update_latest_messages.update_latest_messages.Goals as goal

pub returns-clause-exact : goal.returns-clause-exact
returns-clause-exact c =
    store_voted c.args.store.now c.args.array.now c.reserve.new.self c.in_ok-places.places c.requires.whole.array_of c.in_ok-reserve.ensures c.vote_all.new.array c.args.attesting_indices.now
    c.args.attestation.now c.in-Some.node c.is_sound.ensures.store.tree (rw (← c.blocks-2.ensures) c.in-Some.ensures) c.vote_all.ensures c.take_votes.new.self c.take_votes.ensures

pub returns-clause-whole : goal.returns-clause-whole
returns-clause-whole c =
    votes_whole c.args.store.now c.take_votes.new.self c.args.array.now c.vote_all.new.array c.args.ready.now _ _ c.requires.whole c.take_votes.ensures
    (array_voted c.args.store.now c.args.array.now c.reserve.new.self c.in_ok-places.places c.requires.whole.array_of c.in_ok-reserve.ensures c.vote_all.new.array c.args.attesting_indices.now
    c.args.attestation.now c.in-Some.node c.is_sound.ensures.store.tree (rw (← c.blocks-2.ensures) c.in-Some.ensures) c.vote_all.ensures c.take_votes.new.self c.take_votes.ensures)

pub returns-clause-balances_set_stays : goal.returns-clause-balances_set_stays
returns-clause-balances_set_stays c =
    ap (λ (a : PlainArray). a.balances_set) c.vote_all.ensures ∙ votes_unset c.reserve.new.self c.args.attesting_indices.now _ ∙ ap (λ (a : PlainArray). a.balances_set) c.in_ok-reserve.ensures

pub node_number-requires : goal.node_number-requires
node_number-requires c = subst (λ (b : List KeptBlock). length b < 2 ^ 32) (sym c.blocks-2.ensures) c.requires.whole.few

pub unreachable-requires : goal.unreachable-requires
unreachable-requires c = kept_number c.args.store.now.blocks c.args.attestation.now.content.beacon_block_root c.requires.kept (rw (← c.blocks-2.ensures) c.in_default.ensures)

pub vote_all-requires-clause-node : goal.vote_all-requires-clause-node
vote_all-requires-clause-node c =
    voter_fits c.args.store.now c.args.array.now c.reserve.new.self c.in_ok-places.places c.requires.whole.array_of c.in_ok-reserve.ensures
    c.args.attestation.now.content.beacon_block_root c.in-Some.node (rw (← c.blocks-2.ensures) c.in-Some.ensures)

pub vote_all-requires-clause-room : goal.vote_all-requires-clause-room
vote_all-requires-clause-room c =
    voters_fit c.args.store.now c.args.array.now c.reserve.new.self c.in_ok-places.places c.requires.whole.array_of c.in_ok-reserve.ensures c.args.attesting_indices.now c.in_ok-places.ensures

pub returns-in_err-reserve-clause-whole : goal.returns-in_err-reserve-clause-whole
returns-in_err-reserve-clause-whole c = same_array c.args.store.now c.args.array.now c.reserve.new.self c.args.ready.now c.requires.whole c.in_err-reserve.ensures

pub returns-in_err-reserve-clause-balances_set_stays : goal.returns-in_err-reserve-clause-balances_set_stays
returns-in_err-reserve-clause-balances_set_stays c = ap (λ (a : PlainArray). a.balances_set) c.in_err-reserve.ensures

pub returns-clause-config : goal.returns-clause-config
returns-clause-config c = ap (λ (s : Store). s.config) c.take_votes.ensures

pub returns-clause-blocks : goal.returns-clause-blocks
returns-clause-blocks c = ap (λ (s : Store). s.blocks) c.take_votes.ensures

pub returns-in_err-places-clause-stays : goal.returns-in_err-places-clause-stays
returns-in_err-places-clause-stays c = stop_leaves _ refl

pub returns-in_err-reserve-clause-stays : goal.returns-in_err-reserve-clause-stays
returns-in_err-reserve-clause-stays c = stop_leaves _ c.in_err-reserve.ensures
