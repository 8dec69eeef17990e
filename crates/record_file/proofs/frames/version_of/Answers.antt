use Rattle.std.proofs.Common.{◌≡◌, false, cond, Some, None, take, sym, ap, ◌∙◌}
use Rattle.std.specs.Str.{bytes_eq}
use Rattle.record_file.specs.declared.version.Version.TheVariants.{One, Two}
use Rattle.record_file.specs.Record.{magic}
use Rattle.record_file.proofs.Parts.{eq_turned}
use Rattle.record_file.proofs.frames.version_of.Goals as goal

pub returns : goal.returns
returns c =
    let one : false ≡ bytes_eq (take 4 c.args.bytes.now) (magic One) = sym c.if-starts_with.false ∙ c.starts_with.ensures.value ∙ eq_turned (magic One) (take 4 c.args.bytes.now) in
    let two : false ≡ bytes_eq (take 4 c.args.bytes.now) (magic Two) = sym c.if-starts_with-2.false ∙ c.starts_with-2.ensures.value ∙ eq_turned (magic Two) (take 4 c.args.bytes.now) in
    ap (λ b. cond b (Some Two) None) two ∙ ap (λ b. cond b (Some One) (cond (bytes_eq (take 4 c.args.bytes.now) (magic Two)) (Some Two) None)) one
