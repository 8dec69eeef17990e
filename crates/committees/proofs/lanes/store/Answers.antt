use Rattle.std.proofs.Common.{arith, inl, inr}
use Rattle.std.proofs.lemmas.Simd.{get_or-put_chunk_at, get_or-put_chunk_below, get_or-put_chunk_above}
use Rattle.committees.proofs.lanes.store.Goals as goal

pub returns-clause-inside : goal.returns-clause-inside
returns-clause-inside c = λ j less. get_or-put_chunk_at c.args.at c.args.list.now c.args.items j 0 (omega arith) (omega arith)

pub returns-clause-outside : goal.returns-clause-outside
returns-clause-outside c = λ index out. elim out [
  | inl low ↦ get_or-put_chunk_below c.args.at c.args.list.now c.args.items index 0 low
  | inr high ↦ get_or-put_chunk_above c.args.at c.args.list.now c.args.items index 0 (omega arith)
]
