-- A line could not be written.
use Rattle.std.proofs.Common.{◌≡◌, ◌<◌, ℕ, suc, List, [], ◌∷◌, ◌++◌, length, get_or, drop, ap, ◌∙◌}
use Rattle.std.specs.Prelude.{◌==◌, filter, flat_map}
use Rattle.std.proofs.Math.Seq.{drop-cons}
use Rattle.std.proofs.lemmas.Grind.{flat_map-append}
use Rattle.std.proofs.lemmas.List.Elements.{filter-append}
use Rattle.std.proofs.lemmas.Result.{err_from_is_err_and}
use Rattle.spec_replay.specs.Duties.{proposer_line}
use Rattle.duties.specs.declared.proposers.ProposerDuty.{ProposerDuty}
use Rattle.one_chain.proofs.Texts.{written_partly}
use Rattle.one_chain.proofs.duty_lines.write_proposers.Goals as goal

abbrev lines_at : ℕ → List ProposerDuty → List ℕ
lines_at slot proposers = flat_map proposer_line (filter (λ duty. duty.slot == slot) proposers)

one_more : (slot : ℕ) (proposers : List ProposerDuty) (i : ℕ) (d : ProposerDuty) → i < length proposers
    → lines_at slot (drop i proposers) ≡ lines_at slot (get_or proposers i d ∷ []) ++ lines_at slot (drop (suc i) proposers)
one_more slot proposers i d less =
    ap (lines_at slot) (drop-cons proposers i d less)
    ∙ ap (flat_map proposer_line) (filter-append (λ (duty : ProposerDuty). duty.slot == slot) (get_or proposers i d ∷ []) (drop (suc i) proposers))
    ∙ flat_map-append proposer_line (filter (λ (duty : ProposerDuty). duty.slot == slot) (get_or proposers i d ∷ [])) (filter (λ (duty : ProposerDuty). duty.slot == slot) (drop (suc i) proposers))

pub returns-in_err-write_proposer : goal.returns-in_err-write_proposer
returns-in_err-write_proposer g c =
    let p = err_from_is_err_and c.from_residual.result c.from_residual.ensures.1 in
    rw (p.1, p.2) (written_partly (lines_at c.args.slot c.args.proposers.now) (lines_at c.args.slot (get_or c.args.proposers.now c.loop-duty.duty-index record { slot = 0; validator = 0 } ∷ [])) (lines_at c.args.slot (drop (suc c.loop-duty.duty-index) c.args.proposers.now)) c.in_err-write_proposer.field-0.0 (rw (one_more c.args.slot c.args.proposers.now c.loop-duty.duty-index record { slot = 0; validator = 0 } c.loop-duty-test.true) at c.loop-duty.invariant) c.in_err-write_proposer.ensures)
