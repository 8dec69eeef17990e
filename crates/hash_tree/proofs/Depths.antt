-- The loop that finds a depth.
use Rattle.std.proofs.Common.{◌≡◌, ℕ, suc, ◌+◌, ◌-◌, ◌<◌, ◌≤◌, ◌^◌, cond, refl, sym, ap, ◌∙◌, arith}
use Rattle.std.proofs.lemmas.Bool.{lt-ltb, le-ltb}
use Rattle.hash_tree.specs.Merkle.{depth_of, depth_from}

-- where the tree of a depth is large enough
pub depth_found : (n d : ℕ) → d < 40 → depth_from (40 - d) d n ≡ depth_of n → n ≤ 2 ^ d → depth_of n ≡ d
unfolding depth_from
depth_found n d lt so_far fits =
    let k : 40 - d ≡ suc (40 - (d + 1)) = omega arith in
    sym so_far ∙ ap (λ s. depth_from s d n) k ∙ ap (λ b. cond b (depth_from (40 - (d + 1)) (d + 1) n) d) (le-ltb (2 ^ d) n fits)

pub depth_more : (n d : ℕ) → d < 40 → depth_from (40 - d) d n ≡ depth_of n → 2 ^ d < n → depth_from (40 - (d + 1)) (d + 1) n ≡ depth_of n
unfolding depth_from
depth_more n d lt so_far above =
    let k : 40 - d ≡ suc (40 - (d + 1)) = omega arith in
    sym (ap (λ s. depth_from s d n) k ∙ ap (λ b. cond b (depth_from (40 - (d + 1)) (d + 1) n) d) (lt-ltb (2 ^ d) n above)) ∙ so_far

pub depth_last : (n d : ℕ) → d ≡ 40 → depth_from (40 - d) d n ≡ depth_of n → depth_of n ≡ d
unfolding depth_from
depth_last n d is so_far = sym so_far ∙ ap (λ e. depth_from (40 - e) e n) is ∙ sym is

pub depth_start : (n : ℕ) → depth_from (40 - 0) 0 n ≡ depth_of n
unfolding depth_of
depth_start n = refl
