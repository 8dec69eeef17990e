use Rattle.std.proofs.Common.{◌≡◌, drop}
use Rattle.std.specs.List.{find}
use Rattle.std.specs.Str.{bytes_eq}
use Rattle.bc_preset.specs.Keys.{keys, name_of}
use Rattle.bc_preset.proofs.keys.Key.named.Given as goal

-- the keys so far have other names
abbrev pub invariant-loop-key : goal.invariant-loop-key
invariant-loop-key l =
    (find (λ key. bytes_eq (name_of key) l.text) (drop l.key-index l.key-items) ≡ find (λ key. bytes_eq (name_of key) l.text) keys)
