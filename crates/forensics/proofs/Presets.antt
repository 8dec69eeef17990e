-- Presets are told apart by the slots of an epoch.
use Rattle.std.proofs.Common.{◌≡◌, ◌∙◌, inl, inr, sym, ap, arith}
use Rattle.bc_preset.specs.Presets.{IsPreset}
use Rattle.bc_preset.specs.declared.presets.Preset.{Preset}

pub same_preset : (p q : Preset) → IsPreset p → IsPreset q → p.slots_per_epoch ≡ q.slots_per_epoch → p ≡ q
unfolding IsPreset
same_preset p q (inl a) (inl b) e = a ∙ sym b
same_preset p q (inr a) (inr b) e = a ∙ sym b
same_preset p q (inl a) (inr b) e = absurd (let x : p.slots_per_epoch ≡ 32 = ap (λ (r : Preset). r.slots_per_epoch) a in let y : q.slots_per_epoch ≡ 8 = ap (λ (r : Preset). r.slots_per_epoch) b in omega arith)
same_preset p q (inr a) (inl b) e = absurd (let x : p.slots_per_epoch ≡ 8 = ap (λ (r : Preset). r.slots_per_epoch) a in let y : q.slots_per_epoch ≡ 32 = ap (λ (r : Preset). r.slots_per_epoch) b in omega arith)
