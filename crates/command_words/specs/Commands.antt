-- The commands of the program, and which one the words are. A word is the list of its bytes.
use Rattle.std.specs.Prelude.{◌≡◌, ◌-◌, ◌^◌, ◌≤◌, ◌||◌, ℕ, nat_lt, true, false, List, [], ◌∷◌, map, Option, Some, None, codes, option_map, option_and_then, if◌then◌else◌}
use Rattle.std.specs.Str.{bytes_eq}
use Rattle.std.specs.Str.Parse.{digits_value, without_leading_plus}
use Rattle.command_arguments.specs.Arguments.{Command, ForensicFiles, anchor, drill, duties, forensic, genesis, least_nodes, most_nodes, nodes, replay, slasher}
use Rattle.clap.specs.Words.{App, Kinds, Row, Rule, Shape, fault_of, first_of, new_rule, subcommand_of, takes}
use Rattle.clap.specs.Simple.{new_shape}
use Rattle.clap.specs.ValueTests.{is_unsigned_in}
use Rattle.clap.specs.declared.builder.value_parser.ValueParser.TheVariants as parsers

-- what a command asks for at a place, with the label under which the usage shows it: the name of a file, a number, or a
-- number from one to another
pub data Argument : Type 0 where
  file : List ℕ → Argument
  number : List ℕ → Argument
  within : List ℕ → ℕ → ℕ → Argument

-- a command: its name, and what it asks for in order
pub record Form : Type 0 where
  pub name : List ℕ
  pub arguments : List Argument

-- the commands
abbrev pub forms : List Form
forms =
    record { name = codes "replay"; arguments = file (codes "CONFIG") ∷ file (codes "GENESIS") ∷ file (codes "RECORD") ∷ [] }
    ∷ record { name = codes "drill"; arguments = number (codes "NUMBER") ∷ file (codes "CONFIG") ∷ [] }
    ∷ record { name = codes "genesis"; arguments = file (codes "CONFIG") ∷ file (codes "DEPOSITS") ∷ [] }
    ∷ record { name = codes "duties"; arguments = file (codes "CONFIG") ∷ file (codes "STATE") ∷ number (codes "EPOCH") ∷ [] }
    ∷ record { name = codes "anchor"; arguments = file (codes "CONFIG") ∷ file (codes "STATE") ∷ file (codes "BLOCK") ∷ file (codes "RECORD") ∷ [] }
    ∷ record { name = codes "forensic"; arguments = file (codes "CONFIG") ∷ file (codes "GENESIS") ∷ file (codes "A") ∷ file (codes "B") ∷ [] }
    ∷ record { name = codes "nodes"; arguments = number (codes "NUMBER") ∷ within (codes "COUNT") least_nodes most_nodes ∷ file (codes "CONFIG") ∷ [] }
    ∷ record { name = codes "slasher"; arguments = file (codes "CONFIG") ∷ file (codes "GENESIS") ∷ file (codes "A") ∷ file (codes "B") ∷ [] } ∷ []

-- the greatest number that an argument can be
abbrev pub greatest_number : ℕ
greatest_number = 2 ^ 64 - 1

-- an argument for clap: it is required, and stands at its place; a number is read by clap's parser of u64,
-- with its bounds
abbrev pub rule_of_argument : Argument → Rule
rule_of_argument (file label) = record (new_rule label) { required = true }
rule_of_argument (number label) = record (new_rule label) { required = true; parser = Some (parsers.Unsigned 0 greatest_number) }
rule_of_argument (within label least most) = record (new_rule label) { required = true; parser = Some (parsers.Unsigned least most) }

-- a command for clap
abbrev pub shape_of_form : Form → Shape
shape_of_form form = record (new_shape form.name) { rules = map rule_of_argument form.arguments }

-- the command line for clap: one level of commands, no options and no help words. The words are those behind the program's name.
abbrev pub command_line : App
command_line = record {
  top = record (new_shape (codes "beacon")) { no_binary_name = true; disable_help_flag = true; disable_help_subcommand = true; is_leaf = false };
  subs = map shape_of_form forms;
}

-- the number that u64's parser reads from a text
abbrev pub number_in : List ℕ → Option ℕ
number_in text = if is_unsigned_in 0 greatest_number text then Some (digits_value 10 (without_leading_plus text)) else None

-- the value of the argument with this label, where it is a number
abbrev pub number_of : List ℕ → List Row → Option ℕ
number_of label rows = option_and_then number_in (first_of label rows)

-- `replay`, where each of its arguments has a value
abbrev pub replay_in : List Row → Option Command
replay_in rows =
    option_and_then (λ config. option_and_then (λ genesis. option_map (λ events. replay (record { config = config; genesis = genesis; events = events }))
    (first_of (codes "RECORD") rows)) (first_of (codes "GENESIS") rows)) (first_of (codes "CONFIG") rows)

-- `drill`, likewise
abbrev pub drill_in : List Row → Option Command
drill_in rows =
    option_and_then (λ number. option_map (λ config. drill (record { number = number; config = config }))
    (first_of (codes "CONFIG") rows)) (number_of (codes "NUMBER") rows)

-- `genesis`, likewise
abbrev pub genesis_in : List Row → Option Command
genesis_in rows =
    option_and_then (λ config. option_map (λ deposits. genesis (record { config = config; deposits = deposits }))
    (first_of (codes "DEPOSITS") rows)) (first_of (codes "CONFIG") rows)

-- `duties`, likewise
abbrev pub duties_in : List Row → Option Command
duties_in rows =
    option_and_then (λ config. option_and_then (λ state. option_map (λ epoch. duties (record { config = config; state = state; epoch = epoch }))
    (number_of (codes "EPOCH") rows)) (first_of (codes "STATE") rows)) (first_of (codes "CONFIG") rows)

-- `anchor`, likewise
abbrev pub anchor_in : List Row → Option Command
anchor_in rows =
    option_and_then (λ config. option_and_then (λ state. option_and_then (λ block. option_map (λ events. anchor (record { config = config; state = state; block = block; events = events }))
    (first_of (codes "RECORD") rows)) (first_of (codes "BLOCK") rows)) (first_of (codes "STATE") rows)) (first_of (codes "CONFIG") rows)

-- the files of `forensic` and `slasher`, likewise
abbrev pub records_in : List Row → Option ForensicFiles
records_in rows =
    option_and_then (λ config. option_and_then (λ genesis. option_and_then (λ first. option_map (λ second. record { config = config; genesis = genesis; first = first; second = second })
    (first_of (codes "B") rows)) (first_of (codes "A") rows)) (first_of (codes "GENESIS") rows)) (first_of (codes "CONFIG") rows)

abbrev pub forensic_in : List Row → Option Command
forensic_in rows = option_map forensic (records_in rows)

abbrev pub slasher_in : List Row → Option Command
slasher_in rows = option_map slasher (records_in rows)

-- the value of the argument with this label, where it is a number of nodes
abbrev pub node_count_in : ℕ → Option ℕ
node_count_in count = if nat_lt count least_nodes || nat_lt most_nodes count then None else Some count

abbrev pub node_count_of : List ℕ → List Row → Option ℕ
node_count_of label rows = option_and_then node_count_in (number_of label rows)

-- `nodes`, likewise
abbrev pub nodes_in : List Row → Option Command
nodes_in rows =
    option_and_then (λ number. option_and_then (λ count. option_map (λ config. nodes (record { number = number; count = count; config = config }))
    (first_of (codes "CONFIG") rows)) (node_count_of (codes "COUNT") rows)) (number_of (codes "NUMBER") rows)

-- the command of a name, with the arguments that clap found
abbrev pub named_command : List ℕ × List Row → Option Command
named_command p =
    if bytes_eq p.0 (codes "replay") then replay_in p.1
    else if bytes_eq p.0 (codes "drill") then drill_in p.1
    else if bytes_eq p.0 (codes "genesis") then genesis_in p.1
    else if bytes_eq p.0 (codes "duties") then duties_in p.1
    else if bytes_eq p.0 (codes "anchor") then anchor_in p.1
    else if bytes_eq p.0 (codes "forensic") then forensic_in p.1
    else if bytes_eq p.0 (codes "nodes") then nodes_in p.1
    else if bytes_eq p.0 (codes "slasher") then slasher_in p.1 else None

-- the command that clap's own function of the words gives
abbrev pub given_command : List (List ℕ) → Option Command
given_command words = option_and_then named_command (subcommand_of command_line words)

-- none where clap finds a fault, of one of these kinds
abbrev pub unless_faulty : Kinds → Option Command → Option Command
unless_faulty [] command = command
unless_faulty (kind ∷ kinds) command = None

-- the command that the words are: the given one, where clap finds no fault in them
unfoldable pub command_of : List (List ℕ) → Option Command
command_of words = unless_faulty (fault_of command_line words) (given_command words)

-- Clap doesn't take the words, by its own test for such a command line, or they give no command.
abbrev pub IsDeclined : List (List ℕ) → Type 0
IsDeclined words = takes command_line words ≡ true → given_command words ≡ None
