-- The gains of proposers, attester by attester, are for each proposer the sum over the attesters that it included.
use Rattle.std.proofs.Common.{◌≡◌, ℕ, ◌<◌, Bool, false, cond, eqb, List, [], ◌∷◌, Option, Some, None, length, filter, get_or, set, refl, sym, ap, ◌∙◌, arith, inl, inr, ◌⊎◌}
use Rattle.std.specs.List.{AllByRecursion}
use Rattle.std.proofs.lemmas.Bool.{cases_eq, eq-eqb, ne_eqb}
use Rattle.std.proofs.lemmas.List.{length-set, get_or-set_same, get_or-set_other}
use Rattle.bc_words.specs.Outcome.{Outcome, done, refused, limited, bind, checked_add}
use Rattle.bc_words.specs.declared.refusal.Refusal.{Refusal}
use Rattle.spec_state.specs.declared.plain.PlainState.{PlainState}
use Rattle.spec_epochs.specs.Each.{checked_total_from}
use Rattle.spec_epochs.specs.RewardHelpers.{get_proposer_reward}
use Rattle.spec_epochs.proofs.Each.{bound_done}
use Rattle.epoch_rewards.specs.declared.inclusions.Inclusion.{Inclusion}
use Rattle.epoch_rewards.specs.inside.InclusionRewards.{entry_at, included, all_included}
use Rattle.epoch_rewards.proofs.Overflows.{OnlyOverflows, bound_only, included_only}

-- whether a validator proposed the block of an inclusion
unfoldable pub proposes : ℕ → Option Inclusion → Bool
proposes index None = false
proposes index (Some e) = eqb e.proposer index

-- a sum, and what a proposer gains by those of some attesters that it included
unfoldable pub gained : PlainState → List (Option Inclusion) → ℕ → ℕ → List ℕ → Outcome ℕ
gained state entries index sum attesters = checked_total_from (get_proposer_reward state) sum (filter (λ attester. proposes index (entry_at entries attester)) attesters)

-- the same from where the first of them is known
abbrev behind : PlainState → List (Option Inclusion) → ℕ → ℕ → Bool → ℕ → List ℕ → Outcome ℕ
behind state entries index sum here attester rest = checked_total_from (get_proposer_reward state) sum (cond here (attester ∷ rest) rest)

-- ---- one attester

record Stepped (state : PlainState) (attester : ℕ) (entry : Option Inclusion) (gains more : List ℕ) : Type 0 where
  len : length more ≡ length gains
  each : (index : ℕ) → index < length gains → (rest : List ℕ) → checked_total_from (get_proposer_reward state) (get_or gains index 0) (cond (proposes index entry) (attester ∷ rest) rest) ≡ checked_total_from (get_proposer_reward state) (get_or more index 0) rest

opens : (state : PlainState) (attester sum : ℕ) (rest : List ℕ) → checked_total_from (get_proposer_reward state) sum (attester ∷ rest) ≡ bind (get_proposer_reward state attester) (λ number. bind (checked_add sum number) (λ next. checked_total_from (get_proposer_reward state) next rest))
unfolding checked_total_from
opens state attester sum rest = refl

one_each : (state : PlainState) (attester : ℕ) (e : Inclusion) (gains : List ℕ) (reward sum : ℕ) → get_proposer_reward state attester ≡ done reward → checked_add (get_or gains e.proposer 0) reward ≡ done sum
    → (index : ℕ) → index < length gains → (rest : List ℕ) → checked_total_from (get_proposer_reward state) (get_or gains index 0) (cond (eqb e.proposer index) (attester ∷ rest) rest) ≡ checked_total_from (get_proposer_reward state) (get_or (set gains e.proposer sum) index 0) rest
one_each state attester e gains reward sum r s index less rest = elim (cases_eq e.proposer index) as (λ _. checked_total_from (get_proposer_reward state) (get_or gains index 0) (cond (eqb e.proposer index) (attester ∷ rest) rest) ≡ checked_total_from (get_proposer_reward state) (get_or (set gains e.proposer sum) index 0) rest) [
  | inl same ↦
      ap (λ b. checked_total_from (get_proposer_reward state) (get_or gains index 0) (cond b (attester ∷ rest) rest)) (eq-eqb e.proposer index same)
      ∙ opens state attester (get_or gains index 0) rest
      ∙ ap (λ o. bind o (λ number. bind (checked_add (get_or gains index 0) number) (λ next. checked_total_from (get_proposer_reward state) next rest))) r
      ∙ ap (λ i. bind (checked_add (get_or gains i 0) reward) (λ next. checked_total_from (get_proposer_reward state) next rest)) (sym same)
      ∙ ap (λ o. bind o (λ next. checked_total_from (get_proposer_reward state) next rest)) s
      ∙ ap (λ n. checked_total_from (get_proposer_reward state) n rest) (sym (ap (λ i. get_or (set gains i sum) index 0) same ∙ get_or-set_same gains index sum 0 less))
  | inr ne ↦
      ap (λ b. checked_total_from (get_proposer_reward state) (get_or gains index 0) (cond b (attester ∷ rest) rest)) (ne_eqb e.proposer index ne)
      ∙ ap (λ n. checked_total_from (get_proposer_reward state) n rest) (sym (get_or-set_other gains e.proposer index sum 0 (λ same. ne (sym same))))
]

step_done : (state : PlainState) (attester : ℕ) (entry : Option Inclusion) (gains more : List ℕ) → included state attester entry gains ≡ done more → Stepped state attester entry gains more
unfolding included proposes
step_done state attester None gains more e = let same : gains ≡ more = cc in record {
  len = ap length (sym same);
  each = λ index less rest. ap (λ g. checked_total_from (get_proposer_reward state) (get_or g index 0) rest) same;
}
step_done state attester (Some x) gains more e =
    let one = bound_done (get_proposer_reward state attester) (λ reward. bind (checked_add (get_or gains x.proposer 0) reward) (λ sum. done (set gains x.proposer sum))) more e in
    let two = bound_done (checked_add (get_or gains x.proposer 0) one.0) (λ sum. done (set gains x.proposer sum)) more one.2 in
    let same : set gains x.proposer two.0 ≡ more = cc (two.2) in
    record {
      len = ap length (sym same) ∙ length-set gains x.proposer two.0;
      each = λ index less rest. one_each state attester x gains one.0 two.0 one.1 two.1 index less rest ∙ ap (λ g. checked_total_from (get_proposer_reward state) (get_or g index 0) rest) same;
    }

-- where two steps are refused, one of them is
pub bound_refused : {A B : Type 0} (o : Outcome A) (next : A → Outcome B) (why : Refusal) → bind o next ≡ refused why → (o ≡ refused why) ⊎ ((x : A) × (o ≡ done x) × (next x ≡ refused why))
bound_refused (done x) next why e = inr (x, refl, e)
bound_refused (refused w) next why e = inl (let same : w ≡ why = cc in ap refused same)
bound_refused (limited bound) next why e = absurd cc

step_refused : (state : PlainState) (attester : ℕ) (x : Inclusion) (gains : List ℕ) (why : Refusal) (rest : List ℕ) → included state attester (Some x) gains ≡ refused why
    → checked_total_from (get_proposer_reward state) (get_or gains x.proposer 0) (cond (proposes x.proposer (Some x)) (attester ∷ rest) rest) ≡ refused why
unfolding included proposes
step_refused state attester x gains why rest e =
    ap (λ b. checked_total_from (get_proposer_reward state) (get_or gains x.proposer 0) (cond b (attester ∷ rest) rest)) (eq-eqb x.proposer x.proposer refl)
    ∙ opens state attester (get_or gains x.proposer 0) rest
    ∙ elim (bound_refused (get_proposer_reward state attester) (λ reward. bind (checked_add (get_or gains x.proposer 0) reward) (λ sum. done (set gains x.proposer sum))) why e)
    as (λ _. bind (get_proposer_reward state attester) (λ number. bind (checked_add (get_or gains x.proposer 0) number) (λ next. checked_total_from (get_proposer_reward state) next rest)) ≡ refused why) [
      | inl r ↦ ap (λ o. bind o (λ number. bind (checked_add (get_or gains x.proposer 0) number) (λ next. checked_total_from (get_proposer_reward state) next rest))) r
      | inr later ↦
          ap (λ o. bind o (λ number. bind (checked_add (get_or gains x.proposer 0) number) (λ next. checked_total_from (get_proposer_reward state) next rest))) later.1
          ∙ elim (bound_refused (checked_add (get_or gains x.proposer 0) later.0) (λ sum. done (set gains x.proposer sum)) why later.2)
          as (λ _. bind (checked_add (get_or gains x.proposer 0) later.0) (λ next. checked_total_from (get_proposer_reward state) next rest) ≡ refused why) [
            | inl a ↦ ap (λ o. bind o (λ next. checked_total_from (get_proposer_reward state) next rest)) a
            | inr never ↦ absurd (cc (never.2))
          ]
    ]

-- ---- all attesters

pub record AllGained (state : PlainState) (entries : List (Option Inclusion)) (attesters gains final : List ℕ) : Type 0 where
  pub len : length final ≡ length gains
  pub each : (index : ℕ) → index < length gains → gained state entries index (get_or gains index 0) attesters ≡ done (get_or final index 0)

nothing_more : (state : PlainState) (sum : ℕ) → checked_total_from (get_proposer_reward state) sum [] ≡ done sum
unfolding checked_total_from
nothing_more state sum = refl

pub all_done : (state : PlainState) (entries : List (Option Inclusion)) (attesters gains final : List ℕ) → all_included state entries gains attesters ≡ done final → AllGained state entries attesters gains final
unfolding all_included gained
all_done state entries [] gains final e = let same : gains ≡ final = cc in record {
  len = ap length (sym same);
  each = λ index less. nothing_more state (get_or gains index 0) ∙ ap (λ g. done (get_or g index 0)) same;
}
all_done state entries (attester ∷ attesters) gains final e =
    let parts = bound_done (included state attester (entry_at entries attester) gains) (λ more. all_included state entries more attesters) final e in
    let first = step_done state attester (entry_at entries attester) gains parts.0 parts.1 in
    let rest = all_done state entries attesters parts.0 final parts.2 in
    record {
      len = rest.len ∙ first.len;
      each = λ index less. first.each index less (filter (λ a. proposes index (entry_at entries a)) attesters) ∙ rest.each index (omega (arith, first.len));
    }

-- some proposer's sum is refused
pub record OneRefused (state : PlainState) (entries : List (Option Inclusion)) (attesters gains : List ℕ) (why : Refusal) : Type 0 where
  pub index : ℕ
  pub less : index < length gains
  pub is : gained state entries index (get_or gains index 0) attesters ≡ refused why

here_refused : (state : PlainState) (entries : List (Option Inclusion)) (attester : ℕ) (entry : Option Inclusion) (attesters gains : List ℕ) (why : Refusal) → entry_at entries attester ≡ entry
    → ((x : Inclusion) → entry ≡ Some x → x.proposer < length gains) → included state attester entry gains ≡ refused why → OneRefused state entries (attester ∷ attesters) gains why
unfolding gained included
here_refused state entries attester None attesters gains why at known e = absurd cc
here_refused state entries attester (Some x) attesters gains why at known e = record {
  index = x.proposer;
  less = known x refl;
  is =
      ap (λ o. checked_total_from (get_proposer_reward state) (get_or gains x.proposer 0) (cond (proposes x.proposer o) (attester ∷ filter (λ a. proposes x.proposer (entry_at entries a)) attesters) (filter (λ a. proposes x.proposer (entry_at entries a)) attesters))) at
      ∙ step_refused state attester x gains why (filter (λ a. proposes x.proposer (entry_at entries a)) attesters) e;
}

pub all_refused : (state : PlainState) (entries : List (Option Inclusion)) (attesters gains : List ℕ) (why : Refusal) → ((a : ℕ) (x : Inclusion) → entry_at entries a ≡ Some x → x.proposer < length gains) → all_included state entries gains attesters ≡ refused why → OneRefused state entries attesters gains why
unfolding all_included gained
all_refused state entries [] gains why known e = absurd cc
all_refused state entries (attester ∷ attesters) gains why known e = elim (bound_refused (included state attester (entry_at entries attester) gains) (λ more. all_included state entries more attesters) why e) [
  | inl r ↦ here_refused state entries attester (entry_at entries attester) attesters gains why refl (known attester) r
  | inr later ↦
      let first = step_done state attester (entry_at entries attester) gains later.0 later.1 in
      let rest = all_refused state entries attesters later.0 why (λ a x at. omega (arith, known a x at, first.len)) later.2 in
      let less : rest.index < length gains = omega (arith, rest.less, first.len) in
      record {
        index = rest.index;
        less = less;
        is = first.each rest.index less (filter (λ a. proposes rest.index (entry_at entries a)) attesters) ∙ rest.is;
      }
]

pub all_only : (state : PlainState) (entries : List (Option Inclusion)) (attesters gains : List ℕ) → AllByRecursion (λ a. a < length state.validators) attesters → OnlyOverflows (all_included state entries gains attesters)
unfolding all_included
all_only state entries [] gains below = tt
all_only state entries (attester ∷ attesters) gains below =
    bound_only (included state attester (entry_at entries attester) gains) (λ more. all_included state entries more attesters) (included_only state attester (entry_at entries attester) gains below.0) (λ more. all_only state entries attesters more below.1)
