use Rattle.forensics.proofs.Standing.{says_taken}
use Rattle.forensics.proofs.spans.validator_spans.Spans.add.Goals as goal

pub returns-clause-says : goal.returns-clause-says
returns-clause-says g c = says_taken c.take.result c.args.contents.now c.args.self.now.spans c.take.new.self.spans c.args.vote c.requires.vote c.take.ensures.after
