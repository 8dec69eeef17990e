use Rattle.std.proofs.Common.{arith}
use Rattle.bc_outside.proofs.Onto.{length_handed, handed_push}
use Rattle.bc_outside.proofs.disk.DiskShelf.open_file.Goals as goal

pub returns-in-Ok-open-clause-opens : goal.returns-in-Ok-open-clause-opens
returns-in-Ok-open-clause-opens g c = rw (← c.self.view_is) (record {
  number = rw length_handed (omega (arith, c.len-number.ensures, c.reserve.ensures.len, c.self.inside.opened.ok.0));
  files = rw (c.push_reserved.ensures.items, c.reserve.ensures.items) (handed_push _ _ c.in-Ok-ask.asked.value c.args.name.now c.new.ensures c.in-Ok-ask.ensures.given);
  asked = c.in-Ok-ask.ensures.kept;
})
