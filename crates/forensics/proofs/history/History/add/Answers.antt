use Rattle.std.proofs.Common.{arith}
use Rattle.forensics.proofs.Carriers.{one_carrier, kept_with}
use Rattle.forensics.proofs.Chained.{entry_added, latest_is}
use Rattle.forensics.proofs.history.History.add.Goals as goal

pub invariant_of-self-2 : goal.invariant_of-self-2
invariant_of-self-2 c =
    kept_with _ c.self.inside.added _ _ c.self.inside.carriers.items _ _ c.self.invariant.carriers_are c.add.ensures
    (one_carrier c.push-kept.result _ _ _ _ (record { event = c.args.event; root = c.args.root; block = c.args.block.now; state = c.args.state.now; entered = c.args.entered.now }) c.args.attestations.items c.in_ok-reserve.ensures.items
    c.push-kept.ensures.items (c.push-kept.ensures.succeeds (let room = c.in_ok-reserve.ensures.ok in omega arith)) c.new-carrier.ensures c.requires.attestations)
    (entry_added c.args.self.now _ c.self.inside.finalized c.self.inside.added _ c.self.inside.entries.items _ _ _ c.args.moved c.self.view_is c.self.invariant.entries_are c.entry_of.ensures.root c.entry_of.ensures.exact c.requires.moved c.in_ok-push.ensures.items c.add.ensures)

pub returns : goal.returns
returns c = latest_is c.args.self.now _ _ c.self.inside.added _ _ c.self.view_is c.add.ensures
