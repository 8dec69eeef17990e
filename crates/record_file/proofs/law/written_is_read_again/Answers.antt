use Rattle.record_file.proofs.Again.{reads_again}
use Rattle.record_file.proofs.law.written_is_read_again.Goals as goal

pub returns : goal.returns
returns c = reads_again
