use Rattle.forensics.proofs.Takes.{sorted_of, sorted_all_set}
use Rattle.forensics.proofs.Rooms.{grows_one, room_for_one}
use Rattle.forensics.proofs.spans.one.take_one.Goals as goal

pub add-requires-clause-sorted : goal.add-requires-clause-sorted
add-requires-clause-sorted g c = sorted_of _ _ _ _ c.in-Some.ensures.item.3.0 c.in-Some.ensures.value c.requires.sorted_all

pub returns-in-Some-clause-sorted_all : goal.returns-in-Some-clause-sorted_all
returns-in-Some-clause-sorted_all g c = sorted_all_set c.add.result _ _ _ _ c.add.new.self _ c.requires.sorted_all c.in-Some.ensures.item.3.0 c.in-Some.ensures.value c.requires.vote c.add.ensures.after

pub returns-in-Some-clause-grows : goal.returns-in-Some-clause-grows
returns-in-Some-clause-grows g c = grows_one _ _ c.in-Some.own.now c.in-Some.ensures.item.3.0 c.in-Some.ensures.value c.add.new.self c.add.ensures.few c.add.ensures.room

pub returns-in-Some-clause-spare : goal.returns-in-Some-clause-spare
returns-in-Some-clause-spare g c = λ has. c.add.ensures.spare (room_for_one _ _ c.in-Some.own.now c.in-Some.ensures.item.3.0 c.in-Some.ensures.value has)
