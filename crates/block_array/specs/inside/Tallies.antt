-- What the fields of a tally stand for.
use Rattle.std.specs.Prelude.{false, length, vec_capacity}
use Rattle.block_array.specs.declared.tally.Counted.{Counted}
use Rattle.block_array.specs.inside.Counts.{Counts}
use Rattle.block_array.specs.declared.tally.Tally.TheInside.{Inside}

abbrev pub boost_of : Inside → Counted
boost_of t = record { node = t.boosted_node; balance = t.boost; changed = false }

abbrev pub counts_of : Inside → Counts
counts_of t = record {
  validators = t.counted.items;
  boost = boost_of t;
  nodes = length t.own.items;
  node_room = vec_capacity t.own;
  validator_room = vec_capacity t.counted;
}
