use Rattle.std.proofs.Common.{◌≤◌, ap, arith, length, drop}
use Rattle.bc_outside.specs.Memory.{OpenedFile, handed_of}
use Rattle.bc_outside.specs.Calls.{meets_end}
use Rattle.bc_outside.proofs.Taking.{set_more}
use Rattle.bc_outside.proofs.Shelved.{set_taken, left_in-at, handed_more, held_set}
use Rattle.bc_outside.proofs.memory_shelf.take_from.Goals as goal

pub returns-clause-files : goal.returns-clause-files
returns-clause-files c =
    rw c.take_into.ensures.file (set_taken c.args.opened.now.items c.args.file c.take_into.result (meets_end c.args.into.now c.take_into.result) c.index_mut.result.now c.requires.opened c.index_mut.ensures.value)

pub returns-clause-taken : goal.returns-clause-taken
returns-clause-taken c =
    rw (left_in-at c.args.opened.now.items c.args.file c.index_mut.result.now c.requires.opened c.index_mut.ensures.value) (c.take_into.ensures.count, c.take_into.ensures.bytes)

pub returns-clause-told : goal.returns-clause-told
returns-clause-told c =
    let met = meets_end c.args.into.now c.take_into.result in
    let within : c.take_into.result ≤ length (drop c.index_mut.result.now.taken c.index_mut.result.now.bytes) = omega (arith, c.take_into.ensures.count) in
    set_more handed_of c.args.opened.now.items c.args.file c.index_mut.result.now c.take_into.new.self _ met c.requires.opened c.index_mut.ensures.value
    (rw c.take_into.ensures.file (handed_more c.index_mut.result.now c.take_into.result met c.args.into.now c.take_into.new.into within c.take_into.ensures.bytes c.take_into.ensures.at_end))

pub returns-clause-held : goal.returns-clause-held
returns-clause-held c = λ files held.
    held_set files c.args.opened.now.items c.args.file c.index_mut.result.now c.take_into.new.self c.requires.opened c.index_mut.ensures.value (ap (λ (f : OpenedFile). f.name) c.take_into.ensures.file) (ap (λ (f : OpenedFile). f.bytes) c.take_into.ensures.file) c.take_into.ensures.all held
