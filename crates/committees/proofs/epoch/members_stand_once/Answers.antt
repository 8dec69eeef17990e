use Rattle.std.proofs.Common.{length}
use Rattle.committees.specs.Committees.{committees_of}
use Rattle.committees.proofs.Parts.{some_committees}
use Rattle.committees.proofs.Members.{stand_once}
use Rattle.committees.proofs.epoch.members_stand_once.Goals as goal

pub returns : goal.returns
unfolding committees_of
returns c =
    let preset = c.args.preset.now in
    stand_once c.args.active.now c.args.seed.now preset.shuffle_round_count _ (some_committees preset (length c.args.active.now) c.requires.preset) c.requires.without_repeats
