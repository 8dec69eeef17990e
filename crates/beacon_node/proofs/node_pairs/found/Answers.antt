-- The book has no blocks yet.
use Rattle.beacon_node.proofs.Pairing.{begins_so, nothing_begun}
use Rattle.beacon_node.proofs.node_pairs.found.Goals as goal

pub found_in-requires-clause-begun : goal.found_in-requires-clause-begun
found_in-requires-clause-begun c = begins_so c.args.config.now c.args.genesis.now _ c.in-Ok.ensures.book

pub found_in-requires-clause-first : goal.found_in-requires-clause-first
found_in-requires-clause-first c =
    let b = nothing_begun c.args.config.now c.args.genesis.now _ c.in-Ok.ensures.book in
    rw (b.0, b.1) c.requires.first

pub found_in-requires-clause-second : goal.found_in-requires-clause-second
found_in-requires-clause-second c =
    let b = nothing_begun c.args.config.now c.args.genesis.now _ c.in-Ok.ensures.book in
    rw (b.0, b.1) c.requires.second

pub found_in-requires-clause-apart : goal.found_in-requires-clause-apart
found_in-requires-clause-apart c =
    let b = nothing_begun c.args.config.now c.args.genesis.now _ c.in-Ok.ensures.book in
    rw b.1 c.requires.apart

pub returns-in-Ok-found_in-clause-found : goal.returns-in-Ok-found_in-clause-found
returns-in-Ok-found_in-clause-found c =
    let b = nothing_begun c.args.config.now c.args.genesis.now _ c.in-Ok.ensures.book in
    rw b.1 at c.in-Ok-found_in.ensures
