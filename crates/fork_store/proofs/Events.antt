-- What a handler answers is what the event's handler answers.
use Rattle.std.proofs.Common.{◌≡◌, ap}
use Rattle.bc_words.specs.Outcome.{Outcome, done, refused, limited}
use Rattle.bc_words.specs.Events.{EventOutcome, accepted, event_refused, event_limited, then_event, StoreStops}
use Rattle.bc_words.specs.declared.refusal.Refusal.{Refusal}
use Rattle.bc_words.specs.declared.store_stop.StoreStop.{StoreStop}
use Rattle.bc_words.specs.declared.store_stop.StoreStop.TheVariants as stores
use Rattle.spec_fork_choice.specs.Store.{Store}
use Rattle.spec_fork_choice.specs.OnBlock.{BlockIn}
use Rattle.spec_fork_choice.specs.OnEvent.{Accepted, block, other, without_block}
use Rattle.fork_store.specs.inside.Votes.{event_of}

-- ---- a tick

pub tick_done : (outcome : Outcome Store) (new : Store) → outcome ≡ done new → without_block outcome ≡ accepted (new, other)
unfolding without_block
tick_done outcome new e = ap without_block e

pub tick_refused : (outcome : Outcome Store) (why : Refusal) → outcome ≡ refused why → without_block outcome ≡ event_refused why
unfolding without_block
tick_refused outcome why e = ap without_block e

pub ruleset ticking = (tick_done, tick_refused)

-- ---- a block

abbrev with_block : Store × BlockIn → EventOutcome (Store × Accepted)
with_block new = accepted (new.0, block new.1)

pub block_done : (outcome : EventOutcome (Store × BlockIn)) (new : Store) (block_in : BlockIn) → outcome ≡ accepted (new, block_in) → then_event outcome with_block ≡ accepted (new, block block_in)
block_done outcome new block_in e = ap (λ o. then_event o with_block) e

pub block_stops : (outcome : EventOutcome (Store × BlockIn)) (stop : StoreStop) → StoreStops stop outcome → StoreStops stop (then_event outcome with_block)
block_stops outcome (stores.Refused why) e = ap (λ o. then_event o with_block) e
block_stops outcome (stores.Limit bound) e = ap (λ o. then_event o with_block) e
block_stops outcome (stores.Clash kind) e = ap (λ o. then_event o with_block) e
block_stops outcome stores.NoMemory e = tt

pub ruleset blocks = (block_done, block_stops)

-- ---- an attestation

pub vote_done : (outcome : Outcome Store) (new : Store) → event_of outcome ≡ accepted new → without_block outcome ≡ accepted (new, other)
unfolding without_block
vote_done (done store) new e = let same : store ≡ new = cc in ap (λ s. accepted (s, other)) same
vote_done (refused why) new e = absurd cc
vote_done (limited bound) new e = absurd cc

pub vote_stops : (outcome : Outcome Store) (stop : StoreStop) → StoreStops stop (event_of outcome) → StoreStops stop (without_block outcome)
unfolding without_block
vote_stops (done store) (stores.Refused why) e = absurd cc
vote_stops (done store) (stores.Limit bound) e = absurd cc
vote_stops (done store) (stores.Clash kind) e = absurd cc
vote_stops (done store) stores.NoMemory e = tt
vote_stops (refused other_why) (stores.Refused why) e = let same : other_why ≡ why = cc in ap event_refused same
vote_stops (refused other_why) (stores.Limit bound) e = absurd cc
vote_stops (refused other_why) (stores.Clash kind) e = absurd cc
vote_stops (refused other_why) stores.NoMemory e = tt
vote_stops (limited other_bound) (stores.Refused why) e = absurd cc
vote_stops (limited other_bound) (stores.Limit bound) e = let same : other_bound ≡ bound = cc in ap event_limited same
vote_stops (limited other_bound) (stores.Clash kind) e = absurd cc
vote_stops (limited other_bound) stores.NoMemory e = tt

pub ruleset voting = (vote_done, vote_stops)
