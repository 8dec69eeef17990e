use Rattle.std.proofs.Common.{sym, subst}
use Rattle.state_keeper.specs.Chain.{Kept, HasState}
use Rattle.state_keeper.proofs.Caches.{put_cache}
use Rattle.state_keeper.proofs.Chains.{stands_for}
use Rattle.state_keeper.proofs.keeper.Keeper.cache_state.Goals as goal

pub invariant_of-self : goal.invariant_of-self
invariant_of-self g c =
    let has = subst (λ (kept : Kept _ _). HasState kept.blocks c.args.n c.args.state) (sym c.self.view_is) c.requires in
    record {
      some = c.self.invariant.some;
      each = c.self.invariant.each;
      kept = c.self.invariant.kept;
      cached = put_cache c.self.inside.entries.items c.self.inside.cache.entries c.remember.new.cache.entries c.args.n c.args.state c.self.invariant.cached (stands_for c.self.inside.entries.items c.args.n c.args.state has) c.remember.ensures;
    }
