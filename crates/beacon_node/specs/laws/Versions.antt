-- Records of both versions with the same frames.
use Rattle.std.specs.Prelude.{◌≡◌, ℕ, List, ◌++◌, Option, Some}
use Rattle.record_file.specs.Record.{events_of, fault, magic}
use Rattle.record_file.specs.declared.fault.RecordFault.TheVariants.{BadKind}
use Rattle.record_file.specs.declared.version.Version.TheVariants.{One, Two}
use Rattle.spec_replay.specs.Run.{with_files}
use Rattle.spec_replay.specs.Anchor.{anchor_run}
use Rattle.spec_replay.specs.Forensic.{records_run}
use Rattle.spec_replay.specs.declared.report.Report.{Report}

-- The runs of two records are the same, whatever the other files of the command are.
pub record RunAlike (one two : List ℕ) : Type 0 where
  pub replay : (config genesis : Option (List ℕ)) → with_files config genesis (Some two) ≡ with_files config genesis (Some one)
  pub anchor : (config state block : Option (List ℕ)) → anchor_run config state block (Some two) ≡ anchor_run config state block (Some one)
  pub first : (report : Report) (config genesis second : Option (List ℕ)) → records_run report config genesis (Some two) second ≡ records_run report config genesis (Some one) second
  pub second : (report : Report) (config genesis first : Option (List ℕ)) → records_run report config genesis first (Some two) ≡ records_run report config genesis first (Some one)

-- The same frames have the same run in both versions, unless in version 1 they end at a frame of kind 5.
abbrev pub VersionsRunAlike : Type 0
VersionsRunAlike = (frames : List ℕ) → ((event : ℕ) → (events_of (magic One ++ frames)).end ≡ fault event (BadKind 5) → ⊥) → RunAlike (magic One ++ frames) (magic Two ++ frames)
