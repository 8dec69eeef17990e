-- The rounds behind the first eight give each lane's hash value.
use Rattle.std.proofs.Common.{◌≡◌, ℕ, ◌+◌, ◌++◌, List, length, sym, ap, ◌∙◌, arith}
use Rattle.sha2.specs.Sha256.{compress, digest_bytes, initial_hash_256, padding, rounds, schedule}
use Rattle.hash_tree.specs.inside.Lanes.{variables}
use Rattle.hash_tree.proofs.Hashes.{hash_of_seed}
use Rattle.hash_tree.proofs.sources.Seed.hash_scheduled.Goals as goal

pub returns : goal.returns
returns c j bytes less whole words =
    let tail = bytes ++ padding (32 + length bytes) in
    let seed = c.args.self.now in
    let block = seed ++ tail in
    let view : c.self.inside.bytes ≡ seed = cc in
    let long : length c.self.inside.bytes ≡ 32 = omega arith in
    let start = c.initial.ensures j less in
    let begun : variables j c.spread.result ≡ rounds (variables j c.initial.result) (schedule block 48) 8 =
    c.spread.ensures j less ∙ c.self.invariant.0 tail
    ∙ ap (λ (s : List ℕ). rounds initial_hash_256 (schedule (s ++ tail) 48) 8) view ∙ ap (λ (h : List ℕ). rounds h (schedule block 48) 8) (sym start) in
    let h : variables j c.compress_rest-h.result ≡ compress initial_hash_256 block =
    c.compress_rest-h.ensures j block less words begun ∙ ap (λ (h : List ℕ). compress h block) start in
    c.hashes.invariant.so_far j (omega arith) ∙ ap (λ (h : List ℕ). digest_bytes h 8) h
    ∙ sym (hash_of_seed seed bytes (ap (λ (s : List ℕ). length s) (sym view) ∙ long) whole)
