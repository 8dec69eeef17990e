-- The store doesn't open, the chain ends the run, or its lines are told.
use Rattle.std.proofs.Common.{subst, sym, inl}
use Rattle.spec_fork_choice.specs.Store.{Store}
use Rattle.spec_fork_choice.specs.OnEvent.{genesis_clash}
use Rattle.beacon_node.specs.inside.Feeds.{Keeps}
use Rattle.beacon_node.proofs.Drilled.{own_opened}
use Rattle.beacon_node.proofs.Forensics.{opening_follows}
use Rattle.beacon_node.proofs.Openings.{one_kept}
use Rattle.beacon_node.proofs.drill.own_lines.Goals as goal

pub chain_lines-requires-clause-few : goal.chain_lines-requires-clause-few
chain_lines-requires-clause-few g c = one_kept c.args.config.now c.args.genesis.now c.in-Ok.store.plain c.in-Ok.ensures.opened.is

pub chain_lines-requires-clause-keeps : goal.chain_lines-requires-clause-keeps
chain_lines-requires-clause-keeps g c = subst (λ (s : Store). Keeps s c.args.maker) (sym c.in-Ok.ensures.opened.is) c.requires.keeps

pub returns-in-Ok-clause-told : goal.returns-in-Ok-clause-told
returns-in-Ok-clause-told g c = own_opened _ c.chain_lines.result (genesis_clash c.args.genesis.now) _ _ c.in-Ok.ensures.opened.none (rw c.in-Ok.ensures.opened.is at c.chain_lines.ensures.told)

pub returns-in-Err-clause-told : goal.returns-in-Err-clause-told
returns-in-Err-clause-told g c = inl c.in-Err.ensures.over

pub returns-in-Err-clause-outside : goal.returns-in-Err-clause-outside
returns-in-Err-clause-outside g c = opening_follows c.in-Err.status (genesis_clash c.args.genesis.now) _ c.in-Err.ensures.over
