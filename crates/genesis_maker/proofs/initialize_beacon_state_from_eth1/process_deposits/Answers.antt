-- One deposit more is processed, one of them stops the making, or all are processed.
use Rattle.std.proofs.Common.{◌≡◌, ◌∙◌, ◌++◌, ◌∷◌, [], length, take, sym, ap, subst, arith}
use Rattle.std.proofs.lemmas.List.{length-take, drop_all, map_push}
use Rattle.bc_words.specs.Outcome.{Stops, done}
use Rattle.beacon_types.specs.Containers.{deposit_data_codec}
use Rattle.spec_genesis.specs.Branches.{deposit_leaves}
use Rattle.spec_genesis.specs.InitializeBeaconStateFromEth1.{process_genesis_deposits}
use Rattle.genesis_maker.specs.inside.Making.{process_on_leaves, StopsAt}
use Rattle.genesis_maker.proofs.Taken.{next_taken, one_processed, one_stops, all_processed}
use Rattle.genesis_maker.proofs.initialize_beacon_state_from_eth1.process_deposits.Goals as goal

pub returns-in-Err-process_genesis_deposit : goal.returns-in-Err-process_genesis_deposit
returns-in-Err-process_genesis_deposit c =
    let all = c.args.deposits.now in
    let i = c.loop-index.index in
    let s = c.loop-index.making.state in
    let stop = c.in-Err-process_genesis_deposit.stop in
    let stops = subst (λ ls. Stops stop (process_on_leaves s ls c.in-Ok.deposit)) c.loop-index.invariant.tree c.in-Err-process_genesis_deposit.ensures.state in
    let count : i ≡ length (take i all) = omega (arith, length-take i all, c.loop-index-test.true, c.len-index-end.ensures.len) in
    subst (StopsAt i stop) (ap (process_genesis_deposits s (take i all)) (sym c.in-Ok.ensures) ∙ c.loop-index.invariant.same)
    (one_stops stop s (take i all) c.in-Ok.deposit c.next.new.self i count stops)

pub loop-index-preserved : goal.loop-index-preserved
loop-index-preserved c =
    let all = c.args.deposits.now in
    let i = c.loop-index.index in
    let s = c.loop-index.making.state in
    let t = c.process_genesis_deposit.new.making.state in
    let d = c.in-Ok.deposit in
    let rest = c.next.new.self in
    let taken = next_taken i all d rest (sym c.loop-index.invariant.rest ∙ c.in-Ok.ensures) in
    let processed = subst (λ ls. process_on_leaves s ls d ≡ done t) c.loop-index.invariant.tree c.in-Ok-process_genesis_deposit.ensures.state in
    record {
      rest = sym taken.1;
      tree =
          c.in-Ok-process_genesis_deposit.ensures.tree
          ∙ ap (λ ls. ls ++ deposit_data_codec.hash_tree_root d ∷ []) c.loop-index.invariant.tree
          ∙ sym (map_push deposit_data_codec.hash_tree_root (take i all) d)
          ∙ ap deposit_leaves (sym taken.0);
      keys = c.in-Ok-process_genesis_deposit.ensures.keys;
      same =
          ap (λ before. process_genesis_deposits t before rest) taken.0
          ∙ sym (one_processed s t (take i all) d rest processed)
          ∙ ap (process_genesis_deposits s (take i all)) (sym c.in-Ok.ensures)
          ∙ c.loop-index.invariant.same;
    }

pub returns : goal.returns
returns c =
    let all = c.args.deposits.now in
    let i = c.loop-index.index in
    let none = drop_all i all (omega (arith, c.loop-index-test.false, c.len-index-end.ensures.len)) in
    sym c.loop-index.invariant.same ∙ all_processed c.loop-index.making.state (take i all) c.loop-index.deposits (c.loop-index.invariant.rest ∙ none)
