use Rattle.std.proofs.Common.{◌∙◌, ap, subst}
use Rattle.spec_forensics.specs.Offences.{offence_by}
use Rattle.forensics.specs.Carried.{IsHeld, vote_at}
use Rattle.forensics.proofs.CarriedOffences.{put_none, put_some, named_in, says_held}
use Rattle.forensics.proofs.spans.carried.CarriedVotes.put.Goals as goal

pub returns-in_default : goal.returns-in_default
returns-in_default c = put_none c.args.self.now c.args.validator c.slashable.result c.in_default.is c.requires (says_held _ c.args.self.now c.args.validator c.slashable.result c.self.view_is c.slashable.ensures.exact) c.args.list.now.items

pub vote-requires : goal.vote-requires
vote-requires c = (named_in c.args.self.now c.args.validator c.slashable.result _ c.in-Some.is (says_held _ c.args.self.now c.args.validator c.slashable.result c.self.view_is c.slashable.ensures.exact) (subst IsHeld c.self.view_is c.self.invariant)).0

pub vote-requires-2 : goal.vote-requires-2
vote-requires-2 c = (named_in c.args.self.now c.args.validator c.slashable.result _ c.in-Some.is (says_held _ c.args.self.now c.args.validator c.slashable.result c.self.view_is c.slashable.ensures.exact) (subst IsHeld c.self.view_is c.self.invariant)).1

pub returns : goal.returns
returns c = put_some c.args.self.now c.args.validator c.slashable.result _ c.offence_by.result c.args.list.now.items c.push.new.self.items c.in-Some.is c.requires (says_held _ c.args.self.now c.args.validator c.slashable.result c.self.view_is c.slashable.ensures.exact)
    (c.offence_by.ensures ∙ ap (λ v. offence_by c.args.validator v c.vote-2.result) c.vote.ensures ∙ ap (λ v. offence_by c.args.validator (vote_at c.args.self.now c.args.validator c.in-Some.earlier) v) c.vote-2.ensures)
    c.in_ok-push.ensures.items
