use Rattle.record_file.proofs.Alike.{reads_alike}
use Rattle.record_file.proofs.law.versions_read_alike.Goals as goal

pub returns : goal.returns
returns c = reads_alike
