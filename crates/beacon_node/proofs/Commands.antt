-- The command words as the first step of a run.
use Rattle.std.proofs.Common.{◌≡◌, ℕ, List, [], Option, Some, None, Err, true, false, refl, sym, ◌∙◌, append-nil, arith}
use Rattle.bc_outside.specs.Told.{FileHanded, ShelfTold}
use Rattle.command_arguments.specs.Arguments.{AnchorFiles, Command, DrillWords, DutiesWords, ForensicFiles, GenesisFiles, NodesWords, ReplayFiles, anchor, drill, duties, forensic, genesis, names_of, nodes, replay, slasher}
use Rattle.command_words.specs.Commands.{command_of}
use Rattle.command_words.specs.inside.Reading.{ReadsCommand}
use Rattle.command_words.specs.declared.command.WordsStop.{WordsStop}
use Rattle.command_words.specs.declared.command.WordsStop.TheVariants.{NoCommand, NoMemory}
use Rattle.beacon_node.specs.Commands.{run_of, with_command}
use Rattle.spec_replay.specs.Anchor.{anchor_run}
use Rattle.spec_replay.specs.Drill.{drill_run}
use Rattle.spec_replay.specs.Duties.{duties_run}
use Rattle.spec_replay.specs.Forensic.{forensic_run, slasher_run}
use Rattle.spec_replay.specs.Genesis.{genesis_run}
use Rattle.spec_replay.specs.Nodes.{nodes_run}
use Rattle.spec_replay.specs.Run.{Run, with_files}
use Rattle.one_chain.specs.declared.status.Status.{Status}
use Rattle.one_chain.specs.declared.status.Status.TheVariants as statuses
use Rattle.one_chain.specs.Answers.{Replayed, taken_of, whole_of}
use Rattle.beacon_node.specs.Pace.{taken_run_of}
use Rattle.one_chain.proofs.Reaching.{reaches_none, is_prefix, no_lines}
use Rattle.one_chain.proofs.Steps.{asks_none}

-- the words are the command `replay`
pub replay_answers : (words : List (List ℕ)) (files : ReplayFiles) (status : Status) (s t : ShelfTold) (w x : List ℕ) → command_of words ≡ Some (replay files)
    → Replayed (λ contents. with_files (contents files.config) (contents files.genesis) (contents files.events)) (λ contents opened. with_files (contents files.config) (contents files.genesis) (taken_of 2 opened)) (names_of (Some (replay files))) status s t w x
    → Replayed (λ contents. run_of contents words) (taken_run_of status words) (names_of (command_of words)) status s t w x
unfolding run_of with_command taken_run_of
replay_answers words files status s t w x is h = record { opened = h.opened; files = h.files; answers = λ c a. rw is (h.answers c a) }

-- the words are the command `drill`
pub drill_answers : (words : List (List ℕ)) (named : DrillWords) (status : Status) (s t : ShelfTold) (w x : List ℕ) → command_of words ≡ Some (drill named)
    → Replayed (λ contents. drill_run named.number (contents named.config)) (λ contents opened. whole_of status (drill_run named.number (contents named.config))) (names_of (Some (drill named))) status s t w x
    → Replayed (λ contents. run_of contents words) (taken_run_of status words) (names_of (command_of words)) status s t w x
unfolding run_of with_command taken_run_of
drill_answers words named status s t w x is h = record { opened = h.opened; files = h.files; answers = λ c a. rw is (h.answers c a) }

-- the words are the command `genesis`
pub genesis_answers : (words : List (List ℕ)) (files : GenesisFiles) (status : Status) (s t : ShelfTold) (w x : List ℕ) → command_of words ≡ Some (genesis files)
    → Replayed (λ contents. genesis_run (contents files.config) (contents files.deposits)) (λ contents opened. whole_of status (genesis_run (contents files.config) (contents files.deposits))) (names_of (Some (genesis files))) status s t w x
    → Replayed (λ contents. run_of contents words) (taken_run_of status words) (names_of (command_of words)) status s t w x
unfolding run_of with_command taken_run_of
genesis_answers words files status s t w x is h = record { opened = h.opened; files = h.files; answers = λ c a. rw is (h.answers c a) }

-- the words are the command `duties`
pub duties_answers : (words : List (List ℕ)) (named : DutiesWords) (status : Status) (s t : ShelfTold) (w x : List ℕ) → command_of words ≡ Some (duties named)
    → Replayed (λ contents. duties_run named.epoch (contents named.config) (contents named.state)) (λ contents opened. whole_of status (duties_run named.epoch (contents named.config) (contents named.state)))
    (names_of (Some (duties named))) status s t w x
    → Replayed (λ contents. run_of contents words) (taken_run_of status words) (names_of (command_of words)) status s t w x
unfolding run_of with_command taken_run_of
duties_answers words named status s t w x is h = record { opened = h.opened; files = h.files; answers = λ c a. rw is (h.answers c a) }

-- the words are the command `anchor`
pub anchor_answers : (words : List (List ℕ)) (files : AnchorFiles) (status : Status) (s t : ShelfTold) (w x : List ℕ) → command_of words ≡ Some (anchor files)
    → Replayed (λ contents. anchor_run (contents files.config) (contents files.state) (contents files.block) (contents files.events))
    (λ contents opened. anchor_run (contents files.config) (contents files.state) (contents files.block) (taken_of 3 opened)) (names_of (Some (anchor files))) status s t w x
    → Replayed (λ contents. run_of contents words) (taken_run_of status words) (names_of (command_of words)) status s t w x
unfolding run_of with_command taken_run_of
anchor_answers words files status s t w x is h = record { opened = h.opened; files = h.files; answers = λ c a. rw is (h.answers c a) }

-- the words are the command `forensic`
pub forensic_answers : (words : List (List ℕ)) (files : ForensicFiles) (status : Status) (s t : ShelfTold) (w x : List ℕ) → command_of words ≡ Some (forensic files)
    → Replayed (λ contents. forensic_run (contents files.config) (contents files.genesis) (contents files.first) (contents files.second))
    (λ contents opened. whole_of status (forensic_run (contents files.config) (contents files.genesis) (contents files.first) (contents files.second))) (names_of (Some (forensic files))) status s t w x
    → Replayed (λ contents. run_of contents words) (taken_run_of status words) (names_of (command_of words)) status s t w x
unfolding run_of with_command taken_run_of
forensic_answers words files status s t w x is h = record { opened = h.opened; files = h.files; answers = λ c a. rw is (h.answers c a) }

-- the words are the command `nodes`
pub nodes_answers : (words : List (List ℕ)) (named : NodesWords) (status : Status) (s t : ShelfTold) (w x : List ℕ) → command_of words ≡ Some (nodes named)
    → Replayed (λ contents. nodes_run named.number named.count (contents named.config)) (λ contents opened. whole_of status (nodes_run named.number named.count (contents named.config))) (names_of (Some (nodes named))) status s t w x
    → Replayed (λ contents. run_of contents words) (taken_run_of status words) (names_of (command_of words)) status s t w x
unfolding run_of with_command taken_run_of
nodes_answers words named status s t w x is h = record { opened = h.opened; files = h.files; answers = λ c a. rw is (h.answers c a) }

-- the words are the command `slasher`
pub slasher_answers : (words : List (List ℕ)) (files : ForensicFiles) (status : Status) (s t : ShelfTold) (w x : List ℕ) → command_of words ≡ Some (slasher files)
    → Replayed (λ contents. slasher_run (contents files.config) (contents files.genesis) (contents files.first) (contents files.second))
    (λ contents opened. whole_of status (slasher_run (contents files.config) (contents files.genesis) (contents files.first) (contents files.second))) (names_of (Some (slasher files))) status s t w x
    → Replayed (λ contents. run_of contents words) (taken_run_of status words) (names_of (command_of words)) status s t w x
unfolding run_of with_command taken_run_of
slasher_answers words files status s t w x is h = record { opened = h.opened; files = h.files; answers = λ c a. rw is (h.answers c a) }

-- they are another command
pub another_command : {A : Type 0} (words : List (List ℕ)) (command other : Command) → command_of words ≡ Some command → (command ≡ other → ⊥) → command_of words ≡ Some other → A
another_command words command other is never same = absurd (never (let both = sym is ∙ same in cc))

-- the words are none
pub no_answers : (words : List (List ℕ)) (s : ShelfTold) (w : List ℕ) → command_of words ≡ None
    → Replayed (λ contents. run_of contents words) (taken_run_of statuses.Words words) (names_of (command_of words)) statuses.Words s s w w
unfolding run_of with_command taken_run_of
no_answers words s w is = record {
  opened = [];
  files = sym (append-nil s.files);
  answers = λ c a. rw is (record {
    ends = λ _. refl;
    lines = no_lines false [] w (reaches_none false);
    pace = no_lines false [] w (reaches_none false);
    asks = record { count = 0; reaches = reaches_none false; names_are = sym (append-nil s.asked) };
  });
}

-- the answer that they are none
pub are_none : (words : List (List ℕ)) (stop : WordsStop) → stop ≡ NoCommand → ReadsCommand words (Err stop) → command_of words ≡ None
are_none words NoCommand is h = h.0
are_none words NoMemory is h = cc

-- memory ran out before anything was done
pub not_begun : (run : (List ℕ → Option (List ℕ)) → Run) (taken : (List ℕ → Option (List ℕ)) → List FileHanded → Run) (names : List (List ℕ)) (s : ShelfTold) (w : List ℕ)
    → Replayed run taken names statuses.NoMemory s s w w
not_begun run taken names s w = record {
  opened = [];
  files = sym (append-nil s.files);
  answers = λ c a. record {
    ends = λ never. cc;
    lines = no_lines true _ w (is_prefix 0 _ (omega arith));
    pace = no_lines true _ w (is_prefix 0 _ (omega arith));
    asks = asks_none true _ _ s.asked s.asked (is_prefix 0 _ (omega arith)) refl;
  };
}

-- and so before the words were read
pub unread_words : (words : List (List ℕ)) (s : ShelfTold) (w : List ℕ) → Replayed (λ contents. run_of contents words) (taken_run_of statuses.NoMemory words) (names_of (command_of words)) statuses.NoMemory s s w w
unread_words words s w = not_begun _ _ _ s w
