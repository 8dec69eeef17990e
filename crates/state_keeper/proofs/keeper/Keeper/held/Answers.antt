-- What is found is the state of the block.
use Rattle.std.proofs.Common.{◌≡◌, ◌<◌, nat_eq, IfOk, IfSome, Option, Some, length, map, refl, sym, subst, arith}
use Rattle.std.proofs.lemmas.List.{length-map}
use Rattle.std.proofs.lemmas.Option.{slice_get_read, slice_get_within}
use Rattle.std.proofs.lemmas.Result.{IfOk-weaker}
use Rattle.std.specs.Map.{lookup}
use Rattle.spec_state.specs.declared.plain.PlainState.{PlainState}
use Rattle.state_keeper.specs.Chain.{Kept, HasState}
use Rattle.state_keeper.specs.inside.Entries.{IsCache, plain_of}
use Rattle.state_keeper.proofs.Caches.{promoted_cache, found_has}
use Rattle.state_keeper.proofs.Chains.{has_state}
use Rattle.state_keeper.proofs.Keeps.{kept_stands}
use Rattle.state_keeper.proofs.keeper.Keeper.held.Goals as goal

pub invariant_of-self : goal.invariant_of-self
invariant_of-self g c = record {
  some = c.self.invariant.some;
  each = c.self.invariant.each;
  kept = c.self.invariant.kept;
  cached = subst (λ pairs. IsCache c.self.inside.entries.items pairs) (sym c.recall.ensures.entries) (promoted_cache c.self.inside.entries.items c.self.inside.cache.entries c.args.n c.self.invariant.cached);
}

pub index-requires-in-Some : goal.index-requires-in-Some
index-requires-in-Some g c =
    let within : c.args.n < length (map plain_of c.self.inside.entries.items) = subst (λ (kept : Kept _ _). c.args.n < length kept.blocks) (sym c.self.view_is) c.requires in
    let less : c.args.n < length c.self.inside.entries.items = omega (arith, length-map c.self.inside.entries.items plain_of) in
    let there = slice_get_read c.self.inside.entries.items (length c.self.inside.entries.items) c.args.n c.index.result.now refl less c.index.ensures in
    let below = slice_get_within c.self.inside.states.items c.in-Some.place c.index.result.now.state.value ((c.self.invariant.kept c.args.n c.index.result.now there).right c.in-Some.place c.in-Some.is) in
    omega (arith, below, c.self.inside.states.ok.0)

pub returns-in-Some-clause-state : goal.returns-in-Some-clause-state
returns-in-Some-clause-state g c =
    let within : c.args.n < length (map plain_of c.self.inside.entries.items) = subst (λ (kept : Kept _ _). c.args.n < length kept.blocks) (sym c.self.view_is) c.requires in
    let less : c.args.n < length c.self.inside.entries.items = omega (arith, length-map c.self.inside.entries.items plain_of) in
    let there = slice_get_read c.self.inside.entries.items (length c.self.inside.entries.items) c.args.n c.index.result.now refl less c.index.ensures in
    let right = (c.self.invariant.kept c.args.n c.index.result.now there).right c.in-Some.place c.in-Some.is in
    let stands = kept_stands c.self.inside.entries.items c.self.inside.states.items c.args.n c.index.result.now c.in-Some.place c.index-in-Some.result.now there right c.index-in-Some.ensures in
    let has = subst (λ (kept : Kept _ _). HasState kept.blocks c.args.n c.index-in-Some.result.now) c.self.view_is (has_state c.self.inside.entries.items c.args.n c.index-in-Some.result.now stands) in
    IfOk-weaker c.share_found.result (λ found. found ≡ Some c.index-in-Some.result.now) (λ found. IfSome found (λ state. HasState c.args.self.now.blocks c.args.n state))
    (λ found is. subst (λ (o : Option PlainState). IfSome o (λ state. HasState c.args.self.now.blocks c.args.n state)) (sym is) has)
    c.share_found.ensures

pub returns-in-None-clause-state : goal.returns-in-None-clause-state
returns-in-None-clause-state g c =
    subst (λ (kept : Kept _ _). IfOk c.recall.result (λ found. IfSome found (λ state. HasState kept.blocks c.args.n state))) c.self.view_is
    (IfOk-weaker c.recall.result (λ found. found ≡ lookup (nat_eq c.args.n) c.self.inside.cache.entries) (λ found. IfSome found (λ state. HasState (map plain_of c.self.inside.entries.items) c.args.n state))
    (λ found is. subst (λ (o : Option PlainState). IfSome o (λ state. HasState (map plain_of c.self.inside.entries.items) c.args.n state)) (sym is) (found_has c.self.inside.entries.items c.self.inside.cache.entries c.args.n c.self.invariant.cached))
    c.recall.ensures.found)

pub index-requires : goal.index-requires
index-requires g c =
    let within : c.args.n < length (map plain_of c.self.inside.entries.items) = subst (λ (kept : Kept _ _). c.args.n < length kept.blocks) (sym c.self.view_is) c.requires in
    omega (arith, length-map c.self.inside.entries.items plain_of)

pub returns-in-Some-clause-same : goal.returns-in-Some-clause-same
returns-in-Some-clause-same g c = refl

pub returns-in-None-clause-same : goal.returns-in-None-clause-same
returns-in-None-clause-same g c = c.self.view_is
