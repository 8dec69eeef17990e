-- A frame could not be written.
use Rattle.std.proofs.Common.{◌≡◌, ◌∙◌, ◌<◌, ℕ, suc, List, ◌++◌, length, get_or, drop, sym, ap}
use Rattle.std.specs.Prelude.{flat_map}
use Rattle.std.proofs.Math.Seq.{drop-cons}
use Rattle.std.proofs.lemmas.Result.{err_from_is_err_and}
use Rattle.beacon_types.specs.declared.attester_slashing.AttesterSlashing.{AttesterSlashing}
use Rattle.spec_replay.specs.Slasher.{slashing_frame}
use Rattle.one_chain.proofs.Texts.{written_partly}
use Rattle.beacon_node.proofs.slashings.write_slashings.Goals as goal

one_more : (slashings : List AttesterSlashing) (i : ℕ) (here d : AttesterSlashing) → i < length slashings → here ≡ get_or slashings i d
    → flat_map slashing_frame (drop i slashings) ≡ slashing_frame here ++ flat_map slashing_frame (drop (suc i) slashings)
one_more slashings i here d less is =
    ap (flat_map slashing_frame) (drop-cons slashings i d less) ∙ ap (λ (s : AttesterSlashing). slashing_frame s ++ flat_map slashing_frame (drop (suc i) slashings)) (sym is)

pub returns-in_err-write_slashing : goal.returns-in_err-write_slashing
returns-in_err-write_slashing g c =
    let p = err_from_is_err_and c.from_residual.result c.from_residual.ensures.1 in
    rw (p.1, p.2) (written_partly (flat_map slashing_frame c.args.slashings.now) (slashing_frame c.slashing-item.result) (flat_map slashing_frame (drop (suc c.loop-slashing.slashing-index) c.args.slashings.now))
    c.in_err-write_slashing.field-0.0 (rw (one_more c.args.slashings.now c.loop-slashing.slashing-index c.slashing-item.result _ c.loop-slashing-test.true c.slashing-item.is) at c.loop-slashing.invariant) c.in_err-write_slashing.ensures)
