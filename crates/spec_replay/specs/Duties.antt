-- The run of `duties CONFIG STATE EPOCH`: from the bytes of a configuration and a state to the lines of an epoch's duties.
use Rattle.std.specs.Prelude.{ℕ, List, [], ◌∷◌, ◌++◌, codes, length, nat_lt, ◌==◌, filter, flat_map, if◌then◌else◌, Option, Some, None, Result, Ok, Err}
use Rattle.std.specs.Fmt.{decimal}
use Rattle.bc_preset.specs.Configs.{config_of}
use Rattle.bc_preset.specs.declared.configuration.ConfigValues.{ConfigValues}
use Rattle.bc_preset.specs.declared.faults.ConfigFault.{ConfigFault}
use Rattle.bc_preset.specs.declared.presets.Preset.{Preset}
use Rattle.bc_words.specs.Outcome.{Outcome}
use Rattle.bc_words.specs.Outcome as outcomes
use Rattle.duties.specs.Duties.{CommitteeDuty, DutyLists, can_be_asked, epoch_slots, get_duties}
use Rattle.duties.specs.declared.fault.DutiesFault.{DutiesFault}
use Rattle.duties.specs.declared.fault.DutiesFault.TheVariants.{TooLong, NotAWriting, Unsound, Epoch, Refused}
use Rattle.duties.specs.declared.proposers.ProposerDuty.{ProposerDuty}
use Rattle.spec_state.specs.declared.plain.PlainState.{PlainState}
use Rattle.spec_state.specs.States.{state_codec}
use Rattle.spec_replay.specs.Run.{Run, done, bad_config, bad_duties, limited, over, missing, after_file, after_lines}
use Rattle.spec_fork_choice.specs.Soundness.{is_sound}

-- how many bytes a state's file may have: 2 ^ 30
abbrev pub max_state_len : ℕ
max_state_len = 1073741824

-- the members of a committee in decimal, joined by commas; `-` where there is none
unfoldable pub members_text : List ℕ → List ℕ
members_text [] = codes "-"
members_text (first ∷ others) = decimal first ++ flat_map (λ member. codes "," ++ decimal member) others

-- the line of a committee: `committee`, its slot, its index and its members
unfoldable pub committee_line : CommitteeDuty → List ℕ
committee_line duty = codes "committee " ++ (decimal duty.slot ++ (codes " " ++ (decimal duty.index ++ (codes " " ++ (members_text duty.members ++ 10 ∷ [])))))

-- the line of a proposer: `proposer`, the slot and the validator
unfoldable pub proposer_line : ProposerDuty → List ℕ
proposer_line duty = codes "proposer " ++ (decimal duty.slot ++ (codes " " ++ (decimal duty.validator ++ 10 ∷ [])))

-- the lines of a slot: its committees by index, and then its proposer, where that is told
unfoldable pub slot_lines : DutyLists → ℕ → List ℕ
slot_lines duties slot =
    flat_map committee_line (filter (λ duty. duty.slot == slot) duties.committees)
    ++ flat_map proposer_line (filter (λ duty. duty.slot == slot) duties.proposers)

-- the lines of the duties of an epoch of a state, slot by slot
unfoldable pub duties_lines : PlainState → ℕ → DutyLists → List ℕ
duties_lines state epoch duties = flat_map (slot_lines duties) (epoch_slots state epoch)

-- the duties of an epoch of a state, or why they can't be told
unfoldable pub with_duties : PlainState → ℕ → Outcome DutyLists → Run
with_duties state epoch (outcomes.done duties) = after_lines (duties_lines state epoch duties) (over done)
with_duties state epoch (outcomes.refused why) = over (bad_duties (Refused why))
with_duties state epoch (outcomes.limited bound) = over (limited 0 0 bound)

-- the epoch, which has to be the state's current one or the next
unfoldable pub with_epoch : PlainState → ℕ → Run
with_epoch state epoch = if can_be_asked state epoch then with_duties state epoch (get_duties state epoch) else over (bad_duties Epoch)

-- a state, which has to be there and sound
abbrev pub checked_state : Option PlainState → Result PlainState DutiesFault
checked_state None = Err NotAWriting
checked_state (Some state) = if is_sound state then Ok state else Err Unsound

-- the state that a file of these bytes holds, or the first thing that is wrong with it
unfoldable pub sound_state_of : Preset → List ℕ → Result PlainState DutiesFault
sound_state_of preset bytes = if nat_lt max_state_len (length bytes) then Err TooLong else checked_state ((state_codec preset).deserialize bytes)

-- the state, or its first fault
unfoldable pub with_state : ℕ → Result PlainState DutiesFault → Run
with_state epoch (Err reason) = over (bad_duties reason)
with_state epoch (Ok state) = with_epoch state epoch

-- the state's file, if it is there
unfoldable pub with_file : ConfigValues → ℕ → Option (List ℕ) → Run
with_file config epoch None = missing
with_file config epoch (Some bytes) = after_file (with_state epoch (sound_state_of config.preset bytes))

-- the configuration, or its first fault
unfoldable pub with_config : ℕ → Result ConfigValues ConfigFault → Option (List ℕ) → Run
with_config epoch (Err reason) state = over (bad_config reason)
with_config epoch (Ok config) state = with_file config epoch state

-- the run of the command: the epoch, and the files of configuration and state, if they are there
unfoldable pub duties_run : ℕ → Option (List ℕ) → Option (List ℕ) → Run
duties_run epoch None state = missing
duties_run epoch (Some bytes) state = after_file (with_config epoch (config_of bytes) state)
