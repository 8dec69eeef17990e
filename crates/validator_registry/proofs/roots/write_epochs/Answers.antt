-- Two layers over all chunks.
use Rattle.std.proofs.Common.{◌≡◌, ◌∙◌, ◌*◌, ℕ, length, take, ap, arith}
use Rattle.std.proofs.lemmas.List.{length-take-le, take_all, take_at}
use Rattle.std.specs.List.{flat_map}
use Rattle.hash_tree.specs.Pairs.{parents}
use Rattle.beacon_types.proofs.Lanes.{count_parents}
use Rattle.validator_registry.proofs.MemberRoots.{chunks_of_member, epochs_of}
use Rattle.validator_registry.proofs.roots.write_epochs.Goals as goal

pub returns : goal.returns
returns c =
    let i = c.epochs.i in
    let members = c.args.members.now in
    let done : length members ≡ i = omega arith in
    let all : take i members ≡ members = take_all i members (omega arith) in
    let chunks : take (4 * length members) c.epochs.chunks ≡ flat_map chunks_of_member members =
    ap (λ (n : ℕ). take (4 * n) c.epochs.chunks) done ∙ (c.epochs.invariant.so_far ∙ ap (flat_map chunks_of_member) all) in
    let count : length c.hash_layer.new.out ≡ 2 * length members =
    ap length c.hash_layer.ensures
    ∙ count_parents (2 * length members) (take (4 * length members) c.epochs.chunks)
    (length-take-le (4 * length members) c.epochs.chunks (omega (arith, c.epochs.invariant.room, c.requires.few)) ∙ omega arith) in
    let halves = take_at c.hash_layer.new.out _ (2 * length members) count ∙ (c.hash_layer.ensures ∙ ap parents chunks) in
    c.hash_layer-2.ensures ∙ (ap parents halves ∙ epochs_of members)
