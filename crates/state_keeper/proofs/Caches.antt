-- Pairs of the cache.
use Rattle.std.proofs.Common.{◌≡◌, ℕ, nat_eq, inl, inr, List, Contains, Option, Some, None, IfSome, Result, Ok, Err, OnOk, OnErr, map, refl, sym, ap, subst}
use Rattle.std.proofs.lemmas.Bool.{eqb-true}
use Rattle.std.specs.Map.{lookup}
use Rattle.std.proofs.lemmas.Option.{IfSome_then}
use Rattle.lru.specs.LruCache.{LruCache, lru_cache, promoted, put_entries}
use Rattle.lru.proofs.CallerLemmas.{Contains-lookup, Contains-promoted, Contains-put_entries}
use Rattle.spec_state.specs.declared.plain.PlainState.{PlainState}
use Rattle.state_keeper.specs.declared.entry.Entry.{Entry}
use Rattle.state_keeper.specs.Chain.{HasState}
use Rattle.state_keeper.specs.inside.Entries.{plain_of, StandsFor, IsCache}
use Rattle.state_keeper.specs.inside.Cache.{IsAmong}
use Rattle.state_keeper.proofs.Chains.{has_state}

module _ {B : Type 0} where
  -- the order of the pairs doesn't matter
  pub promoted_cache : (entries : List (Entry B PlainState)) (pairs : List (ℕ × PlainState)) (n : ℕ) → IsCache entries pairs → IsCache entries (promoted (nat_eq n) pairs)
  promoted_cache entries pairs n cached k state among = cached k state (Contains-promoted (nat_eq n) pairs (k, state) among)

  found_among : (entries : List (Entry B PlainState)) (pairs : List (ℕ × PlainState)) (n : ℕ) → IsCache entries pairs → (o : Option PlainState) → lookup (nat_eq n) pairs ≡ o → IfSome o (λ state. StandsFor entries n state)
  found_among entries pairs n cached None is = tt
  found_among entries pairs n cached (Some state) is =
      let (k, among, same) = Contains-lookup (nat_eq n) pairs state is in
      let k_is : n ≡ k = eqb-true n k same in
      subst (λ m. StandsFor entries m state) (sym k_is) (cached k state among)

  -- what is found is the state of the block
  pub found_state : (entries : List (Entry B PlainState)) (pairs : List (ℕ × PlainState)) (n : ℕ) → IsCache entries pairs → IfSome (lookup (nat_eq n) pairs) (λ state. StandsFor entries n state)
  found_state entries pairs n cached = found_among entries pairs n cached (lookup (nat_eq n) pairs) refl

  pub found_has : (entries : List (Entry B PlainState)) (pairs : List (ℕ × PlainState)) (n : ℕ) → IsCache entries pairs → IfSome (lookup (nat_eq n) pairs) (λ state. HasState (map plain_of entries) n state)
  found_has entries pairs n cached = IfSome_then (lookup (nat_eq n) pairs) (found_state entries pairs n cached) (λ state stands. has_state entries n state stands)

  -- a state of a block may be put there
  pub put_cache : (entries : List (Entry B PlainState)) (pairs after : List (ℕ × PlainState)) (n : ℕ) (state : PlainState) → IsCache entries pairs → StandsFor entries n state → ((k : ℕ) (s : PlainState) → Contains after (k, s) → IsAmong pairs n state k s) → IsCache entries after
  put_cache entries pairs after n state cached stands only k s among = elim (only k s among) [
    | inl old ↦ cached k s old
    | inr new ↦ subst (λ m. StandsFor entries m s) (sym new.0) (subst (λ t. StandsFor entries n t) (sym new.1) stands)
  ]

-- what is there behind a put
pub put_among : {S T E : Type 0} (result : Result T E) (old new : LruCache ℕ S) (n : ℕ) (state : S) → OnOk result (new ≡ lru_cache (put_entries nat_eq old n state) old.cap) → OnErr result (new ≡ old) → (k : ℕ) (s : S) → Contains new.entries (k, s) → IsAmong old.entries n state k s
put_among {S} (Ok x) old new n state put same k s among = elim (Contains-put_entries nat_eq old n state (k, s) (subst (λ es. Contains es (k, s)) (ap (λ (c : LruCache ℕ S). c.entries) put) among)) [
  | inl before ↦ inl before
  | inr is ↦ inr (
    elim is.1 [
      | inl here ↦ here
      | inr (w, was, equal) ↦ sym (eqb-true n k equal)
    ],
    is.0,
  )
]
put_among {S} (Err e) old new n state put same k s among = inl (subst (λ es. Contains es (k, s)) (ap (λ (c : LruCache ℕ S). c.entries) same) among)
