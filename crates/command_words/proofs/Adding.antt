-- What clap knows of a command and of the command line, as they are made part by part.
use Rattle.std.proofs.Common.{◌≡◌, ◌<◌, ◌≤◌, ◌+◌, ◌==◌, ◌||◌, ℕ, Bool, false, List, ◌∷◌, ◌++◌, [], map, length, take, get_or, ap, ap₂, ◌∙◌, refl, sym, subst, arith}
use Rattle.std.proofs.lemmas.List.{map_more, get_or-map, take_more, take_all}
use Rattle.std.proofs.lemmas.Grind.{common_steps}
use Rattle.clap.specs.Words.{App, Rule, Shape, with_subcommand}
use Rattle.command_words.specs.Commands.{Argument, Form, command_line, forms, rule_of_argument, shape_of_form}
use Rattle.command_words.specs.declared.forms.Argument as code
use Rattle.command_words.specs.declared.forms.Form as table
use Rattle.command_words.specs.inside.Forms.{argument_of, form_of}

-- the command with the first of its arguments
abbrev pub shape_upto : table.Form → ℕ → Shape
shape_upto form i = shape_of_form (record (form_of form) { arguments = take i (form_of form).arguments })

-- one argument more
pub argument_more : (form : table.Form) (i : ℕ) (d : code.Argument) (s : Shape) (r : Rule) → i < length form.arguments.now
    → s ≡ shape_upto form i → r ≡ rule_of_argument (argument_of (get_or form.arguments.now i d))
    → ◌≡◌ {A = Shape} (record s { rules = s.rules ++ r ∷ [] }) (shape_upto form (i + 1))
argument_more form i d s r less so_far is =
    let xs : List Argument = map argument_of form.arguments.now in
    let here : get_or xs i (argument_of d) ≡ argument_of (get_or form.arguments.now i d) = get_or-map argument_of form.arguments.now i d (argument_of d) less in
    let lt : i < length xs = grind (arith, common_steps) in
    let rules : map rule_of_argument (take i xs) ++ r ∷ [] ≡ map rule_of_argument (take (i + 1) xs) =
    ap (λ (q : Rule). map rule_of_argument (take i xs) ++ q ∷ []) (is ∙ ap rule_of_argument (sym here)) ∙ sym (map_more rule_of_argument xs i (argument_of d) lt) in
    ap (λ (t : Shape). record t { rules = t.rules ++ r ∷ [] }) so_far ∙ ap (λ (rs : List Rule). record (shape_upto form i) { rules = rs }) rules

pub none_global : (a b : Bool) → a ≡ false → b ≡ false → (a || b) ≡ false
none_global a b e f = rw (e, f) refl

-- the command line with the first of its commands
abbrev pub line_upto : ℕ → App
line_upto i = record { top = record command_line.top { is_leaf = i == 0 }; subs = take i (map shape_of_form forms) }

not_zero : (i : ℕ) → 0 < i → (i == 0) ≡ false
not_zero i less = grind (arith, common_steps)

-- one command more
pub command_more : (xs : List table.Form) (i : ℕ) (d : table.Form) (a : App) (s : Shape) → i < length xs → map form_of xs ≡ forms
    → a ≡ line_upto i → s ≡ shape_of_form (form_of (get_or xs i d)) → with_subcommand a s ≡ line_upto (i + 1)
command_more xs i d a s less table so_far is =
    let ys : List Shape = map shape_of_form (map form_of xs) in
    let lt : i < length ys = grind (arith, common_steps) in
    let here : get_or ys i (shape_of_form (form_of d)) ≡ shape_of_form (form_of (get_or xs i d)) =
    get_or-map shape_of_form (map form_of xs) i (form_of d) _ (grind (arith, common_steps)) ∙ ap shape_of_form (get_or-map form_of xs i d _ less) in
    let more : take i ys ++ s ∷ [] ≡ take (i + 1) ys = ap (λ (q : Shape). take i ys ++ q ∷ []) (is ∙ sym here) ∙ sym (take_more ys i (shape_of_form (form_of d)) lt) in
    let subs : take i (map shape_of_form forms) ++ s ∷ [] ≡ take (i + 1) (map shape_of_form forms) = subst (λ (fs : List Form). take i (map shape_of_form fs) ++ s ∷ [] ≡ take (i + 1) (map shape_of_form fs)) table more in
    ap (λ (b : App). with_subcommand b s) so_far
    ∙ ap₂ (λ (leaf : Bool) (ss : List Shape). record { top = record command_line.top { is_leaf = leaf }; subs = ss }) (sym (not_zero (i + 1) (omega arith))) subs

-- all commands
pub line_whole : (xs : List table.Form) (i : ℕ) (a : App) → length xs ≤ i → map form_of xs ≡ forms → a ≡ line_upto i → a ≡ command_line
line_whole xs i a past table so_far =
    let mapped : length (map form_of xs) ≡ length xs = grind (arith, common_steps) in
    let many : length forms ≡ length xs = sym (ap length table) ∙ mapped in
    let leaf : (i == 0) ≡ false = not_zero i (omega (arith, past, many)) in
    let subs : take i (map shape_of_form forms) ≡ map shape_of_form forms = take_all i (map shape_of_form forms) (omega (arith, past, many)) in
    so_far ∙ ap₂ (λ (b : Bool) (ss : List Shape). record { top = record command_line.top { is_leaf = b }; subs = ss }) leaf subs
