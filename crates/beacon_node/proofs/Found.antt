-- What a book finds, and what is written of it.
use Rattle.std.proofs.Common.{◌≡◌, ◌∙◌, ℕ, ◌*◌, ◌≤◌, Bool, true, false, List, ◌++◌, Option, Some, None, Result, Ok, Err, if◌then◌else◌, refl, sym, ap, ap₂, subst}
use Rattle.std.specs.Prelude.{All, codes, flat_map, length, nat_lt}
use Rattle.std.specs.Fmt.{decimal}
use Rattle.bc_outside.specs.Told.{SinkTold}
use Rattle.bc_outside.specs.declared.trouble.Trouble.{Trouble}
use Rattle.bc_outside.specs.declared.trouble.Trouble.TheVariants as troubles
use Rattle.bc_preset.specs.declared.configuration.ConfigValues.{ConfigValues}
use Rattle.beacon_types.specs.declared.checkpoint.Checkpoint.{Checkpoint}
use Rattle.spec_state.specs.declared.plain.PlainState.{PlainState}
use Rattle.spec_fork_choice.specs.Store.{Store}
use Rattle.spec_forensics.specs.CarriedVotes.{all_votes}
use Rattle.spec_forensics.specs.Histories.{AcceptedBlock}
use Rattle.spec_forensics.specs.Offences.{IsCarried, offences_below}
use Rattle.spec_forensics.specs.Steady.{genesis_total}
use Rattle.spec_forensics.specs.Verdict.{balance_of, finalizing_chain, is_agreed, moved_on, offences_of, unless_moved, verdict_of}
use Rattle.spec_forensics.specs.declared.offence.Offence.{Offence}
use Rattle.spec_forensics.specs.declared.vote.Vote.{Vote}
use Rattle.spec_forensics.specs.declared.verdict.Verdict.{Verdict}
use Rattle.spec_forensics.specs.declared.verdict.Verdict.TheVariants.{Agree, Small, Conflict}
use Rattle.spec_replay.specs.Forensic.{Followed, forensic_lines, judge, told_of, verdict_line}
use Rattle.spec_replay.specs.declared.report.Report.TheVariants.{Findings}
use Rattle.spec_replay.specs.OffenceLines.{offence_line}
use Rattle.spec_replay.specs.Drill.{line_of, two_lines}
use Rattle.safety_law.specs.Finals.{IsFinalOf}
use Rattle.safety_law.specs.Follows.{Follows}
use Rattle.forensics.specs.Books.{PlainBook, history_of, verdict_on, votes_of, with_finalized}
use Rattle.one_chain.specs.declared.genesis.GenesisStop.{GenesisStop}
use Rattle.one_chain.specs.declared.genesis.GenesisStop.TheVariants as stops
use Rattle.beacon_node.specs.declared.histories.Findings as code
use Rattle.one_chain.specs.declared.status.Status.TheVariants as statuses
use Rattle.beacon_node.specs.Findings.{WritesFindings}
use Rattle.one_chain.specs.inside.AtEnd.{Concludes}
use Rattle.one_chain.specs.inside.GenesisAnswers.{no_genesis}
use Rattle.beacon_node.specs.inside.Histories.{HasFound}
use Rattle.one_chain.specs.inside.Statuses.{unread, written}
use Rattle.one_chain.specs.inside.Texts.{WritesText}
use Rattle.one_chain.proofs.Whole.{out_of_memory, text_concludes}

-- ---- a book that is closed

module _ (old mid new : PlainBook) (a b : Checkpoint) (first : mid ≡ with_finalized old 0 a) (second : new ≡ with_finalized mid 1 b) where
  closed : new ≡ record old { first_finalized = a; second_finalized = b }
  unfolding with_finalized
  closed = second ∙ ap (λ (book : PlainBook). record book { second_finalized = b }) first

  pub closed_votes : votes_of new ≡ all_votes old.genesis (history_of old 0) (history_of old 1)
  unfolding history_of
  closed_votes = ap votes_of closed

  pub closed_verdict : verdict_on new ≡ verdict_of old.genesis (history_of old 0) (history_of old 1) a b
  unfolding history_of
  closed_verdict = ap verdict_on closed

  pub closed_offences : offences_below (votes_of new) (length new.genesis.validators) ≡ offences_of old.genesis (history_of old 0) (history_of old 1)
  unfolding history_of offences_of
  closed_offences = ap (λ (book : PlainBook). offences_below (votes_of book) (length book.genesis.validators)) closed

-- the second history is still as it was once the first is closed
pub second_final : (old mid : PlainBook) (a b : Checkpoint) → mid ≡ with_finalized old 0 a → IsFinalOf old.genesis (history_of old 1) b → IsFinalOf mid.genesis (history_of mid 1) b
unfolding with_finalized history_of
second_final old mid a b is final = rw is final

-- what it answers is what it finds
pub found_of : (old mid new : PlainBook) (a b : Checkpoint) (first second : Store) (findings : code.Findings) → a ≡ first.finalized_checkpoint → b ≡ second.finalized_checkpoint → mid ≡ with_finalized old 0 a → new ≡ with_finalized mid 1 b
    → findings.offences.items ≡ offences_below (votes_of new) (length new.genesis.validators) → All (IsCarried (votes_of new)) findings.offences.items → findings.verdict ≡ verdict_on new
    → ((balance total : ℕ) → findings.verdict ≡ Conflict balance total → total ≤ 3 * balance) → HasFound old.genesis (history_of old 0) (history_of old 1) first second findings
found_of old mid new a b first second findings is_a is_b close_a close_b offences carried verdict convicts = record {
  offences = offences ∙ closed_offences old mid new a b close_a close_b;
  verdict = verdict ∙ closed_verdict old mid new a b close_a close_b ∙ ap₂ (verdict_of old.genesis (history_of old 0) (history_of old 1)) is_a is_b;
  carried = subst (λ (votes : List Vote). All (IsCarried votes) findings.offences.items) (closed_votes old mid new a b close_a close_b) carried;
  convicts = convicts;
}

-- ---- a conflict

conflict_by : (agreed small : Bool) (m n : Option (List ℕ × ℕ)) (total x y balance total_is : ℕ)
    → (if agreed then Agree else if small then Small total else unless_moved 0 m (unless_moved 1 n (Conflict x y))) ≡ Conflict balance total_is → (balance ≡ x) × (total_is ≡ y)
unfolding unless_moved
conflict_by true small m n total x y balance total_is is = absurd cc
conflict_by false true m n total x y balance total_is is = absurd cc
conflict_by false false (Some at) n total x y balance total_is is = absurd cc
conflict_by false false None (Some at) total x y balance total_is is = absurd cc
conflict_by false false None None total x y balance total_is is = (cc, cc)

-- of which balance and total it tells
pub conflict_is : (genesis : PlainState) (first second : List AcceptedBlock) (a b : Checkpoint) (balance total : ℕ) → verdict_of genesis first second a b ≡ Conflict balance total
    → (balance ≡ balance_of genesis (offences_of genesis first second)) × (total ≡ genesis_total genesis)
unfolding verdict_of
conflict_is genesis first second a b balance total is =
    conflict_by (is_agreed genesis first second a b) (nat_lt (genesis_total genesis) (2 * genesis.preset.effective_balance_increment)) (moved_on genesis (finalizing_chain first a)) (moved_on genesis (finalizing_chain second b)) (genesis_total genesis)
    (balance_of genesis (offences_of genesis first second)) (genesis_total genesis) balance total is

-- ---- what is written

module _ (genesis : PlainState) (first second : Followed) (findings : code.Findings) (found : HasFound genesis first.history second.history first.store second.store findings) where
  abbrev text : List ℕ
  text = flat_map offence_line findings.offences.items ++ verdict_line findings.verdict

  lines_are : text ≡ forensic_lines genesis first second
  unfolding forensic_lines
  lines_are = ap₂ (λ (offences : List Offence) (verdict : Verdict). flat_map offence_line offences ++ verdict_line verdict) found.offences found.verdict

  pub findings_conclude : (result : Result (Unit {0}) Trouble) (p q : SinkTold) → WritesText text result p q → Concludes (written result) (judge Findings genesis first (Ok second)) p q
  unfolding judge told_of
  findings_conclude result p q writes = text_concludes (forensic_lines genesis first second) result (rw lines_are at writes)

-- memory ran out before that
pub nothing_concludes : (genesis : PlainState) (first second : Followed) (p : SinkTold) → Concludes statuses.NoMemory (judge Findings genesis first (Ok second)) p p
unfolding judge told_of
nothing_concludes genesis first second p = out_of_memory (judge Findings genesis first (Ok second)) p refl

-- the two lines of a made split
pub two_are : (genesis : PlainState) (first second : Followed) (findings : code.Findings) → HasFound genesis first.history second.history first.store second.store findings
    → line_of (codes "offenders") (decimal (length findings.offences.items)) ++ verdict_line findings.verdict ≡ two_lines genesis first second
unfolding two_lines
two_are genesis first second findings found =
    ap₂ (λ (offences : List Offence) (verdict : Verdict). line_of (codes "offenders") (decimal (length offences)) ++ verdict_line verdict) found.offences found.verdict

-- all of it was written
pub wrote_all : (result : Result (Unit {0}) Trouble) (text : List ℕ) (p q : SinkTold) → written result ≡ statuses.Done → WritesText text result p q → q.taken ≡ p.taken ++ text
wrote_all (Ok v) text p q is h = h.writes
wrote_all (Err troubles.Failed) text p q is h = absurd cc
wrote_all (Err troubles.NoMemory) text p q is h = absurd cc

pub findings_written : (config : ConfigValues) (genesis : PlainState) (first second : List AcceptedBlock) (a b : Store) (findings : code.Findings) (result : Result (Unit {0}) Trouble) (p q : SinkTold) → Follows config genesis first a → Follows config genesis second b
    → HasFound genesis first second a b findings → WritesText (flat_map offence_line findings.offences.items ++ verdict_line findings.verdict) result p q → written result ≡ statuses.Done → WritesFindings p.taken q.taken
findings_written config genesis first second a b findings result p q follows_a follows_b found writes is = record {
  config = config;
  genesis = genesis;
  first = first;
  second = second;
  first_is = follows_a.is_history;
  second_is = follows_b.is_history;
  offences = findings.offences.items;
  verdict = findings.verdict;
  lines = wrote_all result _ p q is writes;
  carried = found.carried;
  third = λ balance total conflict.
      let parts = conflict_is genesis first second a.finalized_checkpoint b.finalized_checkpoint balance total (sym found.verdict ∙ conflict) in
      record { balance_is = parts.0 ∙ ap (balance_of genesis) (sym found.offences); total_is = parts.1; third = found.convicts balance total conflict };
}

-- ---- ends without findings

pub unread_is_not_done : {A : Type 0} (trouble : Trouble) → unread trouble ≡ statuses.Done → A
unread_is_not_done troubles.Failed is = absurd cc
unread_is_not_done troubles.NoMemory is = absurd cc

pub no_genesis_is_not_done : {A : Type 0} (stop : GenesisStop) → no_genesis stop ≡ statuses.Done → A
no_genesis_is_not_done (stops.Fault part) is = absurd cc
no_genesis_is_not_done stops.NoMemory is = absurd cc
