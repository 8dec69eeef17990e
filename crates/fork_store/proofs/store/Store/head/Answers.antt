use Rattle.std.proofs.Common.{◌≡◌, ap, subst}
use Rattle.block_array.specs.Calls.{made}
use Rattle.spec_fork_choice.specs.GetHead.{get_head}
use Rattle.fork_store.specs.Seen.{Seen}
use Rattle.fork_store.proofs.Heads.{made_whole}
use Rattle.fork_store.proofs.store.Store.head.Goals as goal

pub get_head-requires : goal.get_head-requires
get_head-requires g c = c.self.invariant.whole.array_of

pub invariant_of-self : goal.invariant_of-self
invariant_of-self g c = record {
  whole = made_whole c.self.inside.fields c.self.inside.array c.get_head.new.array c.self.inside.ready c.self.invariant.whole c.get_head.ensures.up_to_date;
  keeper_of = c.self.invariant.keeper_of;
}

pub returns-clause-root : goal.returns-clause-root
returns-clause-root g c = subst (λ (s : Seen). c.get_head.result ≡ get_head s.plain) c.self.view_is c.get_head.ensures.root

pub returns-clause-up_to_date : goal.returns-clause-up_to_date
returns-clause-up_to_date g c = subst (λ (s : Seen). c.get_head.new.array ≡ made s.array) c.self.view_is c.get_head.ensures.up_to_date

pub returns-clause-keeper : goal.returns-clause-keeper
returns-clause-keeper g c = ap (λ (s : Seen). s.keeper) c.self.view_is
