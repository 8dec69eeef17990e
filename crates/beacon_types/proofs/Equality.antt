-- The equality that a condition computes is equality.
use Rattle.std.proofs.Common.{◌≡◌, ℕ, List, ap, ◌∙◌}
use Rattle.std.specs.Prelude.{◌==◌}
use Rattle.std.specs.Bool.{Decides}
use Rattle.std.specs.Cmp.{unsigned_Decides}
use Rattle.std.specs.Cmp.Lexicographic.{pointwise_decides}
use Rattle.std.proofs.lemmas.Bool.Decides.{Decides-and, Decides-like}
use Rattle.beacon_types.specs.Equality.{same_root, same_checkpoint, same_data}
use Rattle.beacon_types.specs.declared.checkpoint.Checkpoint.{Checkpoint}
use Rattle.beacon_types.specs.declared.attestation_data.AttestationData.{AttestationData}

root_decides : (a b : List ℕ) → Decides (same_root a b) (a ≡ b)
root_decides a b = pointwise_decides unsigned_Decides a b

make_checkpoint : (a b : Checkpoint) → (a.epoch ≡ b.epoch) × (a.root ≡ b.root) → a ≡ b
make_checkpoint a b h = ap (λ e. record a { epoch = e }) h.0 ∙ ap (λ r. record { epoch = b.epoch; root = r }) h.1

pub checkpoint_decides : (a b : Checkpoint) → Decides (same_checkpoint a b) (a ≡ b)
checkpoint_decides a b =
    Decides-like (same_checkpoint a b) (make_checkpoint a b) (λ e. (ap (λ (c : Checkpoint). c.epoch) e, ap (λ (c : Checkpoint). c.root) e))
    (Decides-and (a.epoch == b.epoch) (same_root a.root b.root) (unsigned_Decides a.epoch b.epoch) (root_decides a.root b.root))

abbrev Fields : AttestationData → AttestationData → Type 0
Fields a b = (a.slot ≡ b.slot) × ((a.index ≡ b.index) × ((a.beacon_block_root ≡ b.beacon_block_root) × ((a.source ≡ b.source) × (a.target ≡ b.target))))

make_data : (a b : AttestationData) → Fields a b → a ≡ b
make_data a b h =
    ap (λ n. record a { slot = n }) h.0
    ∙ ap (λ n. record a { slot = b.slot; index = n }) h.1.0
    ∙ ap (λ n. record a { slot = b.slot; index = b.index; beacon_block_root = n }) h.1.1.0
    ∙ ap (λ n. record a { slot = b.slot; index = b.index; beacon_block_root = b.beacon_block_root; source = n }) h.1.1.1.0
    ∙ ap (λ n. record a { slot = b.slot; index = b.index; beacon_block_root = b.beacon_block_root; source = b.source; target = n }) h.1.1.1.1

fields_of_same : (a b : AttestationData) → a ≡ b → Fields a b
fields_of_same a b e = (
  ap (λ (d : AttestationData). d.slot) e,
  (ap (λ (d : AttestationData). d.index) e, (ap (λ (d : AttestationData). d.beacon_block_root) e, (ap (λ (d : AttestationData). d.source) e, ap (λ (d : AttestationData). d.target) e))),
)

pub data_decides : (a b : AttestationData) → Decides (same_data a b) (a ≡ b)
data_decides a b =
    Decides-like (same_data a b) (make_data a b) (fields_of_same a b)
    (Decides-and _ _ (unsigned_Decides a.slot b.slot)
    (Decides-and _ _ (unsigned_Decides a.index b.index)
    (Decides-and _ _ (root_decides a.beacon_block_root b.beacon_block_root)
    (Decides-and _ _ (checkpoint_decides a.source b.source) (checkpoint_decides a.target b.target)))))
