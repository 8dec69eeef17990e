-- Looking for a file by its name, one file after the other.
use Rattle.std.proofs.Common.{◌≡◌, ◌<◌, ◌≤◌, ◌+◌, ℕ, true, false, cond, List, length, get_or, drop, Some, None, sym, ap, ◌∙◌}
use Rattle.std.proofs.lemmas.List.{at_drop_more, at_drop_all}
use Rattle.std.specs.Str.{bytes_eq}
use Rattle.bc_outside.specs.Memory.{NamedFile, held_in}

step : (files : List NamedFile) (i : ℕ) (file : NamedFile) (name : List ℕ) → i < length files → file ≡ get_or files i file → held_in (drop i files) name ≡ cond (bytes_eq file.name name) (Some file.bytes) (held_in (drop (i + 1) files) name)
unfolding held_in
step files i file name h e =
    at_drop_more (λ fs. held_in fs name) files i file h ∙ ap (λ (f : NamedFile). cond (bytes_eq f.name name) (Some f.bytes) (held_in (drop (i + 1) files) name)) (sym e)

module _ (files : List NamedFile) (i : ℕ) (file : NamedFile) (name : List ℕ) (h : i < length files) (e : file ≡ get_or files i file) (before : held_in (drop i files) name ≡ held_in files name) where
  pub found_here : bytes_eq file.name name ≡ true → held_in files name ≡ Some file.bytes
  found_here is = sym before ∙ step files i file name h e ∙ ap (λ b. cond b (Some file.bytes) (held_in (drop (i + 1) files) name)) is

  pub not_here : bytes_eq file.name name ≡ false → held_in (drop (i + 1) files) name ≡ held_in files name
  not_here is = sym (ap (λ b. cond b (Some file.bytes) (held_in (drop (i + 1) files) name)) is) ∙ sym (step files i file name h e) ∙ before

pub not_there : (files : List NamedFile) (i : ℕ) (name : List ℕ) → length files ≤ i → held_in (drop i files) name ≡ held_in files name → held_in files name ≡ None
unfolding held_in
not_there files i name h before = sym before ∙ at_drop_all (λ fs. held_in fs name) files i h
