-- Genesis begins what states say.
use Rattle.vote_law.specs.Backed.{AreAmong}
use Rattle.vote_law.specs.Runs.{AreAt}
use Rattle.vote_law.proofs.Genesis.{genesis_goes}
use Rattle.vote_law.proofs.laws.genesis_begins_links.Goals as goal

pub returns : goal.returns
returns c genesis votes roots bounds at many nothing previous current some = genesis_goes genesis (AreAmong votes) (AreAt roots) bounds at many nothing previous current some
