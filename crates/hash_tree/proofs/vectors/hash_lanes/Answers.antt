-- One hash more.
use Rattle.std.proofs.Common.{◌≡◌, ◌≢◌, ℕ, ◌<◌, List, [], length, slice_index_or, sym, ap, ◌∙◌, arith, inl, inr}
use Rattle.std.proofs.lemmas.Bool.{cases_lt}
use Rattle.std.proofs.lemmas.List.{get_or-set_same, get_or-set_other, length-set}
use Rattle.sha2.specs.Sha256.{sha256, digest_bytes, compress, initial_hash_256}
use Rattle.hash_tree.specs.Pairs.{message}
use Rattle.hash_tree.specs.inside.Lanes.{variables, padding_block}
use Rattle.hash_tree.proofs.Hashes.{hash_of_64}
use Rattle.hash_tree.proofs.vectors.hash_lanes.Goals as goal

pub hashes-preserved : goal.hashes-preserved
hashes-preserved g c =
    let j = c.hashes.j in
    let m = message (slice_index_or c.args.pairs.now j []) in
    let less : j < g.row.N = c.hashes-test.true in
    let words = c.expand.ensures j m less (λ k below. c.load.ensures.words j k less below) in
    let first : variables j c.compress-h.result ≡ compress initial_hash_256 m = c.compress-h.ensures j m less words ∙ ap (λ (h : List ℕ). compress h m) (c.requires.initial j less) in
    let second : variables j c.compress_padding-h.result ≡ compress (compress initial_hash_256 m) padding_block = c.compress_padding-h.ensures j less ∙ ap (λ (h : List ℕ). compress h padding_block) first in
    let here : c.digest.result ≡ sha256 m = c.digest.ensures ∙ (ap (λ (h : List ℕ). digest_bytes h 8) (c.turned.ensures ∙ second) ∙ sym (hash_of_64 m (c.load.ensures.long j less))) in
    record {
      room = length-set c.hashes.out j c.digest.result ∙ c.hashes.invariant.room;
      so_far = λ k below. elim (cases_lt k j) [
        | inl before ↦
            let other : k ≢ j = omega arith in
            get_or-set_other c.hashes.out j k c.digest.result [] other ∙ c.hashes.invariant.so_far k before
        | inr last ↦
            let same : k ≡ j = omega arith in
            let room : j < length c.hashes.out = omega (arith, c.hashes.invariant.room) in
            rw same (get_or-set_same c.hashes.out j c.digest.result [] room ∙ here)
      ];
    }
