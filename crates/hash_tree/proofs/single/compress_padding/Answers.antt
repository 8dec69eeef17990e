use Rattle.std.proofs.Common.{◌≡◌, ◌*◌, ap, ◌∙◌, arith}
use Rattle.sha2.specs.Sha256.{add_state, compress, rounds, schedule}
use Rattle.hash_tree.specs.inside.Lanes.{padding_block}
use Rattle.hash_tree.proofs.Schedules.{no_round}
use Rattle.hash_tree.proofs.single.compress_padding.Goals as goal

pub turns-init : goal.turns-init
turns-init c = no_round c.args.h (schedule padding_block 48)

pub turns-preserved : goal.turns-preserved
turns-preserved c =
    c.sixteen_padding_steps-next.ensures c.args.h c.turns.invariant ∙ ap (rounds c.args.h (schedule padding_block 48)) (omega arith)

pub returns : goal.returns
unfolding compress
returns c =
    let done : 16 * c.turns.turn ≡ 64 = omega (arith, c.turns.auto.turn-end) in
    c.add_all.ensures ∙ ap (add_state c.args.h) (rw done at c.turns.invariant)
