use Rattle.std.proofs.Common.{◌≡◌, true, false, [], sym, ◌∙◌}
use Rattle.record_file.specs.inside.Found.{is_short}
use Rattle.record_file.specs.inside.Fetched.{Shows}
use Rattle.bc_outside.proofs.Keeping.{keeps_none, keeps_then}
use Rattle.bc_outside.proofs.Keeping.{takes_length}
use Rattle.record_file.proofs.Fetching.{fetched_none, fetched_stays, fetched_then, fetched_once_more, fetched_once_end}
use Rattle.record_file.proofs.fill.find_frame.Goals as goal

pub loop-version-init : goal.loop-version-init
loop-version-init g c = record { fetched = fetched_none c.args.file c.args.buffer.now (g.F.Shelf.told c.args.shelf.now); keeps = keeps_none (g.F.Shelf.told c.args.shelf.now) }

pub more-requires : goal.more-requires
more-requires g c = rw (takes_length c.loop-version.invariant.fetched.taken) c.requires

pub returns-in-Err-clause-keeps : goal.returns-in-Err-clause-keeps
returns-in-Err-clause-keeps g c = keeps_then [] [] c.loop-version.invariant.keeps c.more.ensures.keeps

pub returns-in-Err-clause-finds : goal.returns-in-Err-clause-finds
returns-in-Err-clause-finds g c =
    let f = c.in-Err.ensures.fetches in
    let shows : Shows c.args.version c.args.events c.frame_at-found.result c.more.new.self = rw (f.0, ← c.as_slice.ensures) c.frame_at-found.ensures.read in
    (fetched_then c.loop-version.invariant.fetched (fetched_stays c.args.file f.0 f.1), (c.frame_at-found.result, sym c.is_short-whole.ensures ∙ c.if-whole.false, shows))

pub returns-then-not-came-clause-keeps : goal.returns-then-not-came-clause-keeps
returns-then-not-came-clause-keeps g c = keeps_then [] [] c.loop-version.invariant.keeps c.more.ensures.keeps

pub returns-then-not-came-clause-finds : goal.returns-then-not-came-clause-finds
returns-then-not-came-clause-finds g c =
    let f = c.in-Ok.ensures.fetches in
    let short : is_short c.frame_at-found.result ≡ true = sym c.is_short-whole.ensures ∙ c.if-whole.false in
    let shows : Shows c.args.version c.args.events c.frame_at-found.result c.more.new.self = rw (f.2 c.if-not-came.true, ← c.as_slice.ensures) c.frame_at-found.ensures.read in
    (rw short (fetched_once_end c.args.file c.in-Ok.came c.if-not-came.true c.loop-version.invariant.fetched f.0), shows)

pub returns-then-whole-clause-finds : goal.returns-then-whole-clause-finds
returns-then-whole-clause-finds g c =
    let whole : is_short c.frame_at-found.result ≡ false = sym c.is_short-whole.ensures ∙ c.if-whole.true in
    (rw whole c.loop-version.invariant.fetched, rw c.as_slice.ensures at c.frame_at-found.ensures.read)

pub loop-version-preserved : goal.loop-version-preserved
loop-version-preserved g c = record {
  fetched = fetched_once_more c.args.file c.in-Ok.came c.if-not-came.false c.loop-version.invariant.fetched c.in-Ok.ensures.fetches.0;
  keeps = keeps_then [] [] c.loop-version.invariant.keeps c.more.ensures.keeps;
}
