-- The validators that members are with balances.
use Rattle.std.proofs.Common.{◌≡◌, ◌∙◌, ℕ, zero, suc, ◌<◌, ◌≤◌, List, [], ◌∷◌, ◌++◌, length, get_or, refl, ap, ap₂, arith, length-append}
use Rattle.std.specs.Prelude.{slice_get, slice_set, Some, None}
use Rattle.beacon_types.specs.declared.validator.Validator.{Validator}
use Rattle.validator_registry.specs.declared.member.Member.{Member}
use Rattle.validator_registry.specs.Registries.{with_balance}
use Rattle.validator_registry.specs.inside.Groups.{validator_of, validators_of}

-- as many as there are members
pub count_validators : (ms : List Member) (bs : List ℕ) → length ms ≤ length bs → length (validators_of ms bs) ≡ length ms
unfolding validators_of
count_validators [] bs fits = refl
count_validators (m ∷ ms) [] fits = absurd (omega arith)
count_validators (m ∷ ms) (b ∷ bs) fits = ap suc (count_validators ms bs (omega arith))

-- the first one, or none where there is no member or no balance
pub no_members : (ms : List Member) (bs : List ℕ) → length ms ≡ 0 → validators_of ms bs ≡ []
unfolding validators_of
no_members [] bs none = refl
no_members (m ∷ ms) bs none = absurd (omega arith)

pub no_balances : (ms : List Member) (bs : List ℕ) → length bs ≡ 0 → validators_of ms bs ≡ []
unfolding validators_of
no_balances [] bs none = refl
no_balances (m ∷ ms) [] none = refl
no_balances (m ∷ ms) (b ∷ bs) none = absurd (omega arith)

pub first_member : (ms more : List Member) (bs others : List ℕ) (m : Member) (b : ℕ) → ms ≡ m ∷ more → bs ≡ b ∷ others → validators_of ms bs ≡ validator_of m b ∷ validators_of more others
unfolding validators_of
first_member ms more bs others m b is balances = ap₂ validators_of is balances

-- the one at a place is the member there with the balance there
pub validator_at : (ms : List Member) (bs : List ℕ) (at : ℕ) (m : Member) → length ms ≤ length bs → at < length ms → ((d : Member) → m ≡ get_or ms at d) → Some (validator_of m (get_or bs at 0)) ≡ slice_get (validators_of ms bs) at
unfolding validators_of
validator_at [] bs at m fits place is = absurd (omega arith)
validator_at (x ∷ ms) [] at m fits place is = absurd (omega arith)
validator_at (x ∷ ms) (b ∷ bs) zero m fits place is = ap (λ (y : Member). Some (validator_of y b)) (is m)
validator_at (x ∷ ms) (b ∷ bs) (suc at) m fits place is = validator_at ms bs at m (omega arith) (omega arith) is

-- and there is none behind the last
pub no_validator : (ms : List Member) (bs : List ℕ) (at : ℕ) → length ms ≤ length bs → length ms ≤ at → None ≡ slice_get (validators_of ms bs) at
unfolding validators_of
no_validator [] bs at fits place = refl
no_validator (x ∷ ms) [] at fits place = absurd (omega arith)
no_validator (x ∷ ms) (b ∷ bs) zero fits place = absurd (omega arith)
no_validator (x ∷ ms) (b ∷ bs) (suc at) fits place = no_validator ms bs at (omega arith) (omega arith)

-- another balance is that of the validator at its place
pub balance_set : (ms : List Member) (bs : List ℕ) (at b : ℕ) → at < length ms → length ms ≤ length bs → validators_of ms (slice_set bs at b) ≡ with_balance (validators_of ms bs) at b
unfolding validators_of with_balance
balance_set [] bs at b place fits = absurd (omega arith)
balance_set (m ∷ ms) [] at b place fits = absurd (omega arith)
balance_set (m ∷ ms) (x ∷ bs) zero b place fits = refl
balance_set (m ∷ ms) (x ∷ bs) (suc at) b place fits = ap (λ (vs : List Validator). validator_of m x ∷ vs) (balance_set ms bs at b (omega arith) (omega arith))

-- another member with its balance is another validator
member_set : (ms : List Member) (bs : List ℕ) (at b : ℕ) (m : Member) → at < length ms → length ms ≤ length bs → validators_of (slice_set ms at m) (slice_set bs at b) ≡ slice_set (validators_of ms bs) at (validator_of m b)
unfolding validators_of
member_set [] bs at b m place fits = absurd (omega arith)
member_set (x ∷ ms) [] at b m place fits = absurd (omega arith)
member_set (x ∷ ms) (y ∷ bs) zero b m place fits = refl
member_set (x ∷ ms) (y ∷ bs) (suc at) b m place fits = ap (λ (vs : List Validator). validator_of x y ∷ vs) (member_set ms bs at b m (omega arith) (omega arith))

-- one more member, where there is room
member_more : (ms : List Member) (bs : List ℕ) (at b : ℕ) (m : Member) → at ≡ length ms → length ms < length bs → validators_of (ms ++ m ∷ []) (slice_set bs at b) ≡ validators_of ms bs ++ validator_of m b ∷ []
unfolding validators_of
member_more [] [] at b m end room = absurd (omega arith)
member_more [] (y ∷ bs) zero b m end room = refl
member_more [] (y ∷ bs) (suc at) b m end room = absurd (omega arith)
member_more (x ∷ ms) [] at b m end room = absurd (omega arith)
member_more (x ∷ ms) (y ∷ bs) zero b m end room = absurd (omega arith)
member_more (x ∷ ms) (y ∷ bs) (suc at) b m end room = ap (λ (vs : List Validator). validator_of x y ∷ vs) (member_more ms bs at b m (omega arith) (omega arith))

-- the member of a validator is this one with its balance
same_validator : (m : Member) (v : Validator) → m.validator ≡ v → validator_of m v.effective_balance ≡ v
same_validator m v is = ap (λ (w : Validator). record w { effective_balance = v.effective_balance }) is

-- a validator put in the place of another, and one more of them
pub validator_set : (ms members : List Member) (bs : List ℕ) (vs : List Validator) (at : ℕ) (m : Member) (v : Validator) → validators_of ms bs ≡ vs → members ≡ slice_set ms at m → m.validator ≡ v → at < length ms → length ms ≤ length bs
    → validators_of members (slice_set bs at v.effective_balance) ≡ slice_set vs at v
validator_set ms members bs vs at m v view is same place fits =
    ap (λ (xs : List Member). validators_of xs (slice_set bs at v.effective_balance)) is
    ∙ (member_set ms bs at v.effective_balance m place fits
    ∙ ap₂ (λ (xs : List Validator) (w : Validator). slice_set xs at w) view (same_validator m v same))

pub validator_more : (ms members : List Member) (bs : List ℕ) (vs : List Validator) (at : ℕ) (m : Member) (v : Validator) → validators_of ms bs ≡ vs → members ≡ ms ++ m ∷ [] → m.validator ≡ v → at ≡ length ms → length ms < length bs
    → validators_of members (slice_set bs at v.effective_balance) ≡ vs ++ v ∷ []
validator_more ms members bs vs at m v view is same end room =
    ap (λ (xs : List Member). validators_of xs (slice_set bs at v.effective_balance)) is
    ∙ (member_more ms bs at v.effective_balance m end room
    ∙ ap₂ (λ (xs : List Validator) (w : Validator). xs ++ w ∷ []) view (same_validator m v same))

-- a group with one more member, where there was room
pub more_fit : (ms members : List Member) (m : Member) → members ≡ ms ++ m ∷ [] → length ms < 16 → length members ≤ 16
more_fit ms members m is room = omega (arith, ap length is, length-append ms (m ∷ []))
