-- The first place has the first field, and the places behind it have the others.
use Rattle.std.proofs.Common.{◌≡◌, ◌-◌, ◌∷◌, ◌++◌, List, [], length, suc, slice_set, ap, ◌∙◌, arith}
use Rattle.std.proofs.lemmas.List.{append-nil, drop_all}
use borrow.Rule.Slice.PartMut.{put_mid}
use Rattle.ssz_codec.specs.declared.layout.Field.{Field}
use Rattle.ssz_codec.proofs.rows.Tuple2Row.put_fields.Goals as goal

first_put : (fields : List Field) (first : Field) (more : List Field) → length fields ≡ suc (length more)
    → put_mid 1 (length (slice_set fields 0 first) - 1) (slice_set fields 0 first) more ≡ first ∷ more
first_put [] first more e = absurd (omega arith)
first_put (old ∷ fields) first more e = ap (λ (none : List Field). first ∷ (more ++ none)) (drop_all (suc (length fields) - 1) fields (omega arith)) ∙ ap (λ (all : List Field). first ∷ all) (append-nil more)

pub returns : goal.returns
returns g c =
    rw c.put_fields.ensures (first_put c.args.fields.now c.field.result g.R.Row.layout c.requires ∙ ap (λ (f : Field). f ∷ g.R.Row.layout) c.field.ensures)
