-- One more member with its balance is one more validator.
use Rattle.std.proofs.Common.{rules, ◌≡◌, ◌∙◌, length, take, refl, sym, arith}
use Rattle.std.proofs.lemmas.List.{take_more}
use Rattle.validator_registry.proofs.Members.{no_members, validator_more}
use Rattle.validator_registry.proofs.group.Group.of.Goals as goal

pub members-init : goal.members-init
members-init c =
    let none : length c.in_ok-members.members.items ≡ 0 = search rules in
    record { count = none; room = refl; so_far = no_members _ _ none }

pub members-preserved : goal.members-preserved
members-preserved c =
    let k = c.members.k in
    let vs = c.args.validators.now in
    record {
      count = search rules;
      room = search rules;
      so_far =
          validator_more c.members.members.items c.push.new.self.items c.members.balances (take k vs) k c.with.result _ c.members.invariant.so_far (search rules) c.with.ensures (sym c.members.invariant.count) (omega (arith, c.members.invariant.count, c.members.invariant.room, c.requires))
          ∙ sym (take_more vs k _ (omega arith));
    }
