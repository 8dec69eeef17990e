-- One word more.
use Rattle.std.proofs.Common.{rules, ◌≡◌, ℕ, ◌+◌, ◌*◌, List, ◌++◌, length, get_or, refl, sym, ap, ap₂, ◌∙◌, add-one, arith}
use Rattle.std.proofs.lemmas.List.{take_all}
use Rattle.std.proofs.lemmas.Slice.{take-put_mid, overwrites}
use Rattle.std.specs.Int.{w32, to_be_bytes}
use Rattle.sha2.specs.Sha256.{digest_bytes}
use Rattle.hash_tree.proofs.vectors.digest.Goals as goal

next_bytes : (h : List ℕ) (i : ℕ) → digest_bytes h (i + 1) ≡ digest_bytes h i ++ to_be_bytes w32 (get_or h i 0)
unfolding digest_bytes
next_bytes h i = rw add-one refl

pub words-init : goal.words-init
unfolding digest_bytes
words-init c = record { room = refl; so_far = refl }

pub words-preserved : goal.words-preserved
words-preserved c = record {
  room = search (rules, overwrites);
  so_far = take-put_mid (4 * c.words.i) _ c.words.bytes c.copy_from_slice.new.self (4 * (c.words.i + 1)) (let four : length c.copy_from_slice.new.self ≡ 4 = ap length (c.copy_from_slice.ensures.after ∙ c.to_be_bytes.ensures) in omega arith) (omega (arith, c.words.invariant.room))
      ∙ (ap₂ (λ (xs ys : List ℕ). xs ++ ys) c.words.invariant.so_far (c.copy_from_slice.ensures.after ∙ c.to_be_bytes.ensures) ∙ sym (next_bytes c.args.h.now c.words.i));
}

pub returns : goal.returns
returns c =
    let done : c.words.i ≡ 8 = omega arith in
    sym (take_all 32 c.words.bytes (omega (arith, c.words.invariant.room))) ∙ rw done at c.words.invariant.so_far
