-- A pair behind the put was there, or is the one that was put.
use Rattle.state_keeper.proofs.Caches.{put_among}
use Rattle.state_keeper.proofs.cache.remember.Goals as goal

pub returns : goal.returns
returns g c = put_among c.put-old.result c.args.cache.now c.put-old.new.self c.args.n c.args.state c.put-old.ensures.entries c.put-old.ensures.err
