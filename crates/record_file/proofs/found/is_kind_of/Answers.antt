-- The kinds from 1 on are known, up to the version's last, and no other.
use Rattle.std.proofs.Common.{◌&&◌, nat_le, ap, sym, ◌∙◌}
use Rattle.std.proofs.lemmas.Bool.{le-leb}
use Rattle.record_file.proofs.found.is_kind_of.Goals as goal

pub returns-then-kind-ge1 : goal.returns-then-kind-ge1
returns-then-kind-ge1 c =
    ap (λ least. least && nat_le c.args.kind c.last_kind.result) (sym (le-leb 1 c.args.kind c.if-kind-ge1.true))
    ∙ ap (λ last. nat_le 1 c.args.kind && nat_le c.args.kind last) c.last_kind.ensures
