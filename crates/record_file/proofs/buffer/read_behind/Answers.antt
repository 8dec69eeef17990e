use Rattle.std.proofs.Common.{ap, ◌≡◌, ◌∙◌, ◌+◌, ℕ, length, take, drop, arith, length-take, length-drop}
use Rattle.record_file.proofs.Parts.{read_part, count_part, first_part, front_part, front_of, takes_met}
use Rattle.record_file.proofs.buffer.read_behind.Goals as goal

pub returns-in-Ok-read-clause-taken : goal.returns-in-Ok-read-clause-taken
returns-in-Ok-read-clause-taken g c =
    let e : drop (length c.args.bytes.now.items) c.truncate.new.self.items ≡ take c.in-Ok-read.n c.read.new.into = rw c.truncate.ensures.items (read_part _ c.len-len.result c.in-Ok-read.n _ _ c.read.new.into _ _ (omega (arith, c.len-len.ensures)) (omega (arith, length-take {A = ℕ}, c.deref_mut.ensures.len, c.in-Ok.ensures.len)) (omega (arith, c.in-Ok-read.ensures.reads.within)) (omega (arith, c.read.auto.into, c.resize.new.self.ok.0, ap length c.deref_mut.ensures.value, c.deref_mut.ensures.len, c.in-Ok.ensures.len, length-take {A = ℕ}, length-drop {A = ℕ}))) in
    rw e (takes_met c.args.file _ _ c.in-Ok-read.n _ _ c.in-Ok-read.ensures.reads.taken (omega (arith, c.requires.some, c.deref_mut.ensures.len, ap length c.deref_mut.ensures.value, c.in-Ok.ensures.len, c.len-len.ensures, length-take {A = ℕ}, length-drop {A = ℕ})))

pub returns-in-Ok-read-clause-count : goal.returns-in-Ok-read-clause-count
returns-in-Ok-read-clause-count g c =
    rw c.truncate.ensures.items (count_part _ c.len-len.result c.in-Ok-read.n _ _ c.read.new.into _ _ (omega (arith, c.len-len.ensures)) (omega (arith, length-take {A = ℕ}, c.deref_mut.ensures.len, c.in-Ok.ensures.len)) (omega (arith, c.in-Ok-read.ensures.reads.within)) (omega (arith, c.read.auto.into, c.resize.new.self.ok.0, ap length c.deref_mut.ensures.value, c.deref_mut.ensures.len, c.in-Ok.ensures.len, length-take {A = ℕ}, length-drop {A = ℕ})))

pub returns-in-Ok-read-clause-front : goal.returns-in-Ok-read-clause-front
returns-in-Ok-read-clause-front g c =
    rw c.truncate.ensures.items (front_part _ c.len-len.result (c.len-len.result + c.in-Ok-read.n) _ _ _ _ c.args.bytes.now.items (omega (arith, c.len-len.ensures)) (omega arith) (omega (arith, c.in-Ok.ensures.len)) (omega arith) (ap (take c.len-len.result) (c.deref_mut.ensures.value ∙ c.in-Ok.ensures.items) ∙ front_of c.len-len.result (c.len-len.result + c.args.size) c.args.bytes.now.items _ (omega (arith, c.len-len.ensures)) (omega arith)))

pub returns-in-Err-read-clause-err : goal.returns-in-Err-read-clause-err
returns-in-Err-read-clause-err g c =
    rw c.truncate-in-Err-read.ensures.items (first_part c.len-len.result _ _ _ _ c.args.bytes.now.items (omega (arith, c.in-Ok.ensures.len)) (omega (arith, c.len-len.ensures)) (ap (take c.len-len.result) (c.deref_mut.ensures.value ∙ c.in-Ok.ensures.items) ∙ front_of c.len-len.result (c.len-len.result + c.args.size) c.args.bytes.now.items _ (omega (arith, c.len-len.ensures)) (omega arith)))
