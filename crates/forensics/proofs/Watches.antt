-- The first state that moved, among states that are shown one after another.
use Rattle.std.proofs.Common.{◌≡◌, ◌∙◌, ℕ, Bool, true, false, cond, List, [], ◌∷◌, ◌++◌, Option, Some, None, is_some, refl, sym, ap, append_assoc}
use Rattle.spec_state.specs.declared.plain.PlainState.{PlainState}
use Rattle.spec_state.specs.Accessors.{get_current_epoch}
use Rattle.spec_forensics.specs.Steady.{is_steady_at}
use Rattle.spec_forensics.specs.Verdict.{first_moved}
use Rattle.epoch_visitor.specs.Shown.{shown_all}
use Rattle.forensics.specs.Watches.{with_entered}

-- what one state more makes of it
unfoldable pub or_moved : Option ℕ → Bool → ℕ → Option ℕ
or_moved (Some epoch) steady now = Some epoch
or_moved None true now = None
or_moved None false now = Some now

chosen : (steady : Bool) (rest : Option ℕ) (epoch : ℕ) (last : Bool) (now : ℕ) → cond steady (or_moved rest last now) (Some epoch) ≡ or_moved (cond steady rest (Some epoch)) last now
unfolding or_moved
chosen true rest epoch last now = refl
chosen false rest epoch last now = refl

alone : (steady : Bool) (now : ℕ) → cond steady None (Some now) ≡ or_moved None steady now
unfolding or_moved
alone true now = refl
alone false now = refl

pub moved_last : (genesis : PlainState) (states : List PlainState) (state : PlainState) → first_moved genesis (states ++ state ∷ []) ≡ or_moved (first_moved genesis states) (is_steady_at genesis state) (get_current_epoch state)
unfolding first_moved
moved_last genesis [] state = alone (is_steady_at genesis state) (get_current_epoch state)
moved_last genesis (s ∷ states) state =
    ap (λ o. cond (is_steady_at genesis s) o (Some (get_current_epoch s))) (moved_last genesis states state)
    ∙ chosen (is_steady_at genesis s) (first_moved genesis states) (get_current_epoch s) (is_steady_at genesis state) (get_current_epoch state)

-- ---- as code comes by it

pub stays_moved : (genesis : PlainState) (states : List PlainState) (state : PlainState) (moved : Option ℕ) → moved ≡ first_moved genesis states → is_some moved ≡ true → moved ≡ first_moved genesis (states ++ state ∷ [])
unfolding or_moved
stays_moved genesis states state (Some epoch) is some = ap (λ o. or_moved o (is_steady_at genesis state) (get_current_epoch state)) is ∙ sym (moved_last genesis states state)
stays_moved genesis states state None is some = absurd cc

pub stays_steady : (genesis : PlainState) (states : List PlainState) (state : PlainState) (moved : Option ℕ) → moved ≡ first_moved genesis states → is_some moved ≡ false → is_steady_at genesis state ≡ true → moved ≡ first_moved genesis (states ++ state ∷ [])
unfolding or_moved
stays_steady genesis states state (Some epoch) is none steady = absurd cc
stays_steady genesis states state None is none steady =
    sym (ap (λ b. or_moved None b (get_current_epoch state)) steady) ∙ ap (λ o. or_moved o (is_steady_at genesis state) (get_current_epoch state)) is ∙ sym (moved_last genesis states state)

pub moves_now : (genesis : PlainState) (states : List PlainState) (state : PlainState) (moved : Option ℕ) → moved ≡ first_moved genesis states → is_some moved ≡ false → is_steady_at genesis state ≡ false → Some (get_current_epoch state) ≡ first_moved genesis (states ++ state ∷ [])
unfolding or_moved
moves_now genesis states state (Some epoch) is none steady = absurd cc
moves_now genesis states state None is none steady =
    sym (ap (λ b. or_moved None b (get_current_epoch state)) steady) ∙ ap (λ o. or_moved o (is_steady_at genesis state) (get_current_epoch state)) is ∙ sym (moved_last genesis states state)

pub ruleset looking = (stays_moved, stays_steady, moves_now)

-- ---- what becomes of a watch

shown_from : (genesis : PlainState) (before states : List PlainState) → shown_all with_entered (record { genesis = genesis; entered = before }) states ≡ record { genesis = genesis; entered = before ++ states }
unfolding shown_all with_entered
shown_from genesis before [] = ap (λ (xs : List PlainState). record { genesis = genesis; entered = xs }) (nothing_more before)
  where
    nothing_more : (xs : List PlainState) → xs ≡ xs ++ []
    nothing_more [] = refl
    nothing_more (x ∷ xs) = ap (λ ys. x ∷ ys) (nothing_more xs)
shown_from genesis before (state ∷ states) = shown_from genesis (before ++ state ∷ []) states ∙ ap (λ (xs : List PlainState). record { genesis = genesis; entered = xs }) (append_assoc before (state ∷ []) states)

-- a watch that is shown states has seen them, one after another
pub watched : (genesis : PlainState) (states : List PlainState) → shown_all with_entered (record { genesis = genesis; entered = [] }) states ≡ record { genesis = genesis; entered = states }
watched genesis states = shown_from genesis [] states
