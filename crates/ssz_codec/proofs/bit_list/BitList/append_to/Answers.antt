use Rattle.std.proofs.Common.{◌+◌, ◌%◌, ◌^◌, ◌<◌, ◌++◌, ◌∷◌, [], ap, sym, subst, ◌∙◌, arith}
use Rattle.ssz_codec.specs.BitLists.{bit_list_bytes}
use Rattle.ssz_codec.proofs.HeldBits.{whole_writing, part_writing, shifted_one, under_byte}
use Rattle.ssz_codec.proofs.bit_list.BitList.append_to.Goals as goal

pub returns-then-used-eq0-clause-ok : goal.returns-then-used-eq0-clause-ok
returns-then-used-eq0-clause-ok c =
    let b = c.self.inside in
    let e = sym (whole_writing b c.self.invariant c.if-used-eq0.true) ∙ ap bit_list_bytes c.self.view_is in
    rw (← e, ← c.deref.ensures.value) c.put_ended.ensures.ok

pub overflow_add-last : goal.overflow_add-last
overflow_add-last c =
    let b = c.self.inside in
    let used = b.len % 8 in
    let h = part_writing b c.in-Some.front.now c.in-Some.last.now c.self.invariant (sym c.deref-2.ensures.value ∙ c.in-Some.ensures.cases.0) (omega arith) in
    record { fits = subst (λ m. c.in-Some.last.now + m < 2 ^ 8) (sym (shifted_one used (omega arith))) (under_byte used c.in-Some.last.now (omega arith) h.0) }

pub returns-clause-ok : goal.returns-clause-ok
returns-clause-ok c =
    let b = c.self.inside in
    let used = b.len % 8 in
    let front = c.in-Some.front.now in
    let last = c.in-Some.last.now in
    let h = part_writing b front last c.self.invariant (sym c.deref-2.ensures.value ∙ c.in-Some.ensures.cases.0) (omega arith) in
    let e = ap (λ m. front ++ (last + m) ∷ []) (shifted_one used (omega arith)) ∙ (sym h.1 ∙ ap bit_list_bytes c.self.view_is) in
    rw (← e) c.put_ended-in-Some.ensures.ok
