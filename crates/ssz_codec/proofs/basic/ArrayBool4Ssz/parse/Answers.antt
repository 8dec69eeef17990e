use Rattle.std.proofs.Common.{ℕ, ◌≡◌, ◌<◌, ◌≤◌, Bool, true, false, List, [], ◌∷◌, length, get_or, cond, Option, Some, None, refl, ap, ◌∙◌, arith}
use Rattle.std.specs.Prelude.{nat_lt}
use Rattle.std.proofs.lemmas.Bool.{lt-ltb}
use Rattle.ssz_codec.specs.Basic.{number_bits, parse_bits}
use Rattle.ssz_codec.proofs.basic.ArrayBool4Ssz.parse.Goals as goal

only_byte : (bytes : List ℕ) → 1 ≤ length bytes → length bytes < 2 → bytes ≡ get_or bytes 0 0 ∷ []
only_byte [] some short = absurd (omega arith)
only_byte (n ∷ []) some short = refl
only_byte (n ∷ m ∷ bytes) some short = absurd (omega arith)

pub returns-in-len1 : goal.returns-in-len1
returns-in-len1 c =
    let n = get_or c.args.bytes.now 0 0 in
    ap (parse_bits 4) (only_byte c.args.bytes.now c.in-len1.len_at_least c.in-len1.len_below)
    ∙ ap (λ b. cond b (Some (number_bits 4 n)) None) (lt-ltb n 16 (omega arith))

never : (b : Bool) (other : Option (List Bool)) → other ≡ None → cond b other None ≡ None
never true other e = e
never false other e = refl

two_bytes : (bytes : List ℕ) → 2 ≤ length bytes → parse_bits 4 bytes ≡ None
two_bytes [] more = absurd (omega arith)
two_bytes (n ∷ []) more = absurd (omega arith)
two_bytes (n ∷ m ∷ bytes) more = never (nat_lt n 16) None refl

pub returns-in_default-3 : goal.returns-in_default-3
returns-in_default-3 c = two_bytes c.args.bytes.now (omega (arith, c.in_default.len_at_least))
