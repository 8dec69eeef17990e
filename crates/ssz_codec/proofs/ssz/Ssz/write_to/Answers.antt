use Rattle.std.proofs.Common.{take, ap, ◌∙◌}
use Rattle.ssz_codec.proofs.ssz.Ssz.write_to.Goals as goal

-- what was written in vain is taken away
pub returns-in-Err-clause-err : goal.returns-in-Err-clause-err
returns-in-Err-clause-err g c = c.cut_back.ensures ∙ ap (λ n. take n c.append_to.new.out) c.len-start.ensures ∙ c.in-Err.ensures.err
