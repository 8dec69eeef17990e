-- From clap's answer to the command that the words are.
use Rattle.std.proofs.Common.{◌≡◌, ℕ, true, List, [], ◌∷◌, Option, Some, None, Result, Ok, Err, option_map, refl, sym, subst, ap, ap₂, ◌∙◌, inl, inr}
use Rattle.std.specs.Prelude.{option_and_then}
use Rattle.std.specs.Option.{ok_or}
use Rattle.clap.specs.Words.{App, Kinds, HasKind, IsAmong, Row, fault_of, is_simple, is_simple_and_free, kind_of, subcommand_name_of, subcommand_of, subcommand_rows_of, takes}
use Rattle.clap.specs.declared.parser.matches.ArgMatches.{ArgMatches}
use Rattle.clap.specs.declared.parser.matches.ArgMatches.TheViews.{out-ArgMatches}
use Rattle.clap.specs.declared.error.Error.{Error}
use Rattle.clap.specs.declared.error.ErrorKind.{ErrorKind}
use Rattle.clap.specs.declared.error.ErrorKind.TheVariants.{OutOfMemory}
use Rattle.clap.proofs.OnLiterals.{clap_on_literals}
use Rattle.command_words.specs.Commands.{command_line, command_of, given_command, named_command}
use Rattle.command_arguments.specs.declared.command.Command as code
use Rattle.command_words.specs.declared.command.WordsStop.{WordsStop}
use Rattle.command_words.specs.declared.command.WordsStop.TheVariants.{NoCommand, NoMemory}
use Rattle.command_words.specs.inside.Reading.{ReadsCommand, command_value}

pub line_is_simple : is_simple command_line ≡ true
unfolding clap_on_literals
line_is_simple = refl

pub line_is_free : is_simple_and_free command_line ≡ true
unfolding clap_on_literals
line_is_free = refl

-- clap found a fault
faulty : (words : List (List ℕ)) (kinds : Kinds) (k : ErrorKind) → fault_of command_line words ≡ kinds → IsAmong k kinds → command_of words ≡ None
unfolding command_of
faulty words [] k is among = absurd among
faulty words (x ∷ xs) k is among = rw is refl

pub err_reads : (words : List (List ℕ)) (e : Error) (stop : WordsStop) → (kind_of e ≡ OutOfMemory → stop ≡ NoMemory) → (stop ≡ NoMemory → kind_of e ≡ OutOfMemory)
    → HasKind (fault_of command_line words) e → (takes command_line words ≡ true → kind_of e ≡ OutOfMemory) → ReadsCommand words (Err stop)
err_reads words e NoMemory memory back has passes = tt
err_reads words e NoCommand memory back has passes = (none has, λ taken. cc (memory (passes taken)))
  where
    none : HasKind (fault_of command_line words) e → command_of words ≡ None
    none (inl out) = cc (memory out)
    none (inr among) = faulty words (fault_of command_line words) (kind_of e) refl among

-- clap took the words, and gave this
pub taken : (words : List (List ℕ)) (sub : Option (List ℕ × List Row)) → fault_of command_line words ≡ [] → sub ≡ subcommand_of command_line words → command_of words ≡ option_and_then named_command sub
unfolding command_of
taken words sub none is = rw none (ap (option_and_then named_command) (sym is))

-- the answer is that command, or there is none
ok_reads : (words : List (List ℕ)) (command : Option code.Command) (result : Result code.Command WordsStop) → command_of words ≡ option_map command_value command → given_command words ≡ option_map command_value command
    → ((v : code.Command) → command ≡ Some v → result ≡ Ok v) → (command ≡ None → result ≡ Err NoCommand) → ReadsCommand words result
ok_reads words (Some v) result is given some none = rw (some v refl) is
ok_reads words None result is given some none = rw (none refl) (is, λ _. given)

-- name and rows of a subcommand are those that were found
both_parts : {A B : Type 0} (sub : Option (A × B)) (a : A) (b : B) → Some a ≡ option_map (λ p. p.0) sub → Some b ≡ option_map (λ p. p.1) sub → Some (a, b) ≡ sub
both_parts None a b e f = cc
both_parts {A} {B} (Some p) a b e f =
    let first : a ≡ p.0 = cc in
    let second : b ≡ p.1 = cc in
    ap₂ (λ (x : A) (y : B). Some (x, y)) first second

pub named_reads : (words : List (List ℕ)) (sub : Option (List ℕ × List Row)) (name : List ℕ) (rows : List Row) (command : Option code.Command) (result : Result code.Command WordsStop)
    → fault_of command_line words ≡ [] → sub ≡ subcommand_of command_line words → Some name ≡ option_map (λ p. p.0) sub → Some rows ≡ option_map (λ p. p.1) sub
    → option_map command_value command ≡ named_command (name, rows) → result ≡ ok_or command NoCommand → ReadsCommand words result
named_reads words sub name rows command result none is of_name of_rows made answers =
    let value : option_and_then named_command sub ≡ option_map command_value command = ap (option_and_then named_command) (sym (both_parts sub name rows of_name of_rows)) ∙ sym made in
    ok_reads words command result (taken words sub none is ∙ value) (ap (option_and_then named_command) (sym is) ∙ value)
    (λ v e. answers ∙ ap (λ (o : Option code.Command). ok_or o NoCommand) e) (λ e. answers ∙ ap (λ (o : Option code.Command). ok_or o NoCommand) e)

pub unnamed : (words : List (List ℕ)) (sub : Option (List ℕ × List Row)) → fault_of command_line words ≡ [] → sub ≡ subcommand_of command_line words → None ≡ option_map (λ p. p.1) sub → ReadsCommand words (Err NoCommand)
unnamed words None none is no_rows = (taken words None none is, λ _. ap (option_and_then named_command) (sym is))
unnamed words (Some p) none is no_rows = cc

-- what clap says of the command that was made, it says of the command line
pub fault_at : (a : App) (words : List (List ℕ)) → a ≡ command_line → fault_of a words ≡ [] → fault_of command_line words ≡ []
fault_at a words same none = subst (λ (b : App). fault_of b words ≡ []) same none

pub kinds_at : (a : App) (words : List (List ℕ)) (e : Error) → a ≡ command_line → HasKind (fault_of a words) e → HasKind (fault_of command_line words) e
kinds_at a words e same has = subst (λ (b : App). HasKind (fault_of b words) e) same has

pub passes_at : (a : App) (words : List (List ℕ)) (P : Type 0) → a ≡ command_line → (takes a words ≡ true → P) → takes command_line words ≡ true → P
passes_at a words P same passes = subst (λ (b : App). takes b words ≡ true → P) same passes

pub sub_at : (a : App) (words : List (List ℕ)) (sub : Option (List ℕ × List Row)) → a ≡ command_line → sub ≡ subcommand_of a words → sub ≡ subcommand_of command_line words
sub_at a words sub same is = is ∙ ap (λ (b : App). subcommand_of b words) same

name_in : {X A B : Type 0} (f : X → A) (g : X → B) (o : Option X) → option_map f o ≡ option_map (λ (p : A × B). p.0) (option_map (λ x. (f x, g x)) o)
name_in f g None = refl
name_in f g (Some x) = refl

-- the name that a parse met is that of its subcommand
pub name_of_sub : (m : ArgMatches) (name : List ℕ) → Some name ≡ subcommand_name_of m → Some name ≡ option_map (λ p. p.0) (subcommand_rows_of m)
name_of_sub m name is = is ∙ name_in _ _ (out-ArgMatches m).subcommand
