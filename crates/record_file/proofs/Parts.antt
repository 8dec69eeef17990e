-- Parts of lists that were cut and joined.
use Rattle.std.proofs.Common.{rules, ◌<◌, Bool, refl, ◌==◌, ◌&&◌, true, false, ◌∷◌, ◌≡◌, ◌≤◌, ℕ, ◌+◌, ◌-◌, List, [], ◌++◌, length, take, drop, arith, append_assoc, length-take}
use Rattle.std.proofs.Math.Seq.{drop-append_seam}
use Rattle.std.proofs.Math.ListN.{drop_of_length-le}
use Rattle.std.proofs.lemmas.List.{drop-take}
use Rattle.std.proofs.lemmas.Slice.Eq.{bytes_eq-Decides}
use Rattle.std.specs.Str.{bytes_eq}
use Rattle.std.proofs.lemmas.Grind.{common_steps}
use Rattle.bc_outside.specs.Told.{ShelfTold}
use Rattle.bc_outside.specs.Calls.{Takes, meets_end}

and_true : (a : Bool) → (a && true) ≡ a
and_true true = refl
and_true false = refl

-- a read into a piece with room meets the end exactly where it gives nothing
pub takes_met : (file : ℕ) (bytes piece : List ℕ) (n : ℕ) (s t : ShelfTold) → Takes file bytes (meets_end piece n) s t → 0 < length piece → Takes file bytes (n == 0) s t
takes_met file bytes [] n s t h some = absurd (omega arith)
takes_met file bytes (b ∷ piece) n s t h some = rw (and_true (n == 0)) at h

-- whether bytes are equal, asked from either side
pub eq_turned : (xs ys : List ℕ) → bytes_eq xs ys ≡ bytes_eq ys xs
eq_turned xs ys = search (rules, bytes_eq-Decides)

-- the first m of a list, and n of these
first_of : (n m : ℕ) (into more : List ℕ) → n ≤ length into → n ≤ m → take n (take m (into ++ more)) ≡ take n into
first_of n m into more le lt = grind (arith, common_steps)

behind_front : (n m : ℕ) (front into more : List ℕ) → n ≤ length into → n ≤ m → drop (length front) (take (length front + n) (take (length front + m) (front ++ (into ++ more)))) ≡ take n into
behind_front n m front into more le lt = rw (drop-take, drop-take, drop-append_seam) (first_of n m into more le lt)

-- What is read into the part of a list behind front stands there, also after the list was cut.
pub read_part : (start len n whole : ℕ) (front into post tail : List ℕ) → start ≡ len → length front ≡ len → n ≤ length into → len + length into ≤ whole → drop start (take (len + n) (take whole ((front ++ (into ++ post)) ++ tail))) ≡ take n into
read_part start len n whole front into post tail e f le room =
    let m : ℕ = whole - length front in
    let w : length front + m ≡ whole = omega arith in
    rw (e, append_assoc front (into ++ post) tail, append_assoc into post tail, ← w, ← f) (behind_front n m front into (post ++ tail) le (omega arith))

-- So many bytes are there then, and those in front stay.
pub count_part : (start len n whole : ℕ) (front into post tail : List ℕ) → start ≡ len → length front ≡ len → n ≤ length into → len + length into ≤ whole → length (take (len + n) (take whole ((front ++ (into ++ post)) ++ tail))) ≡ start + n
count_part start len n whole front into post tail e f le room = grind (arith, common_steps)

pub front_of : (n m : ℕ) (xs more : List ℕ) → length xs ≡ n → n ≤ m → take n (take m xs ++ more) ≡ xs
front_of n m xs more e le = grind (arith, common_steps)

pub first_part : (len whole : ℕ) (front rest tail xs : List ℕ) → len ≤ whole → length xs ≡ len → front ≡ xs → take len (take whole ((front ++ rest) ++ tail)) ≡ xs
first_part len whole front rest tail xs room l e = rw (e, append_assoc xs rest tail) (grind (arith, common_steps))

pub front_part : (start len more whole : ℕ) (front rest tail xs : List ℕ) → start ≡ len → len ≤ more → len ≤ whole → length xs ≡ start → front ≡ xs → take start (take more (take whole ((front ++ rest) ++ tail))) ≡ xs
front_part start len more whole front rest tail xs s m room l e = rw (e, append_assoc xs rest tail) (grind (arith, common_steps))

-- Nothing stands behind the front of a list that was cut there.
pub cut_part : (start len : ℕ) (whole : List ℕ) → start ≡ len → drop start (take len whole) ≡ []
cut_part start len whole e = rw e (drop_of_length-le (take len whole) (omega (arith, length-take len whole)))

-- A part of an equal list, behind start and up to start + n.
pub part_of : (start n : ℕ) (xs ys : List ℕ) → xs ≡ ys → take ((start + n) - start) (drop start xs) ≡ take n (drop start ys)
part_of start n xs ys e = let k : (start + n) - start ≡ n = omega arith in rw (k, e)
