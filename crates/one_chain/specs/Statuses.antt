-- The numbers and names of the statuses.
use Rattle.std.specs.Prelude.{ℕ, List, codes}
use Rattle.one_chain.specs.declared.status.Status.{Status}
use Rattle.one_chain.specs.declared.status.Status.TheVariants as statuses

-- the number that the program ends with
unfoldable pub status_number : Status → ℕ
status_number statuses.Done = 0
status_number statuses.Words = 1
status_number (statuses.Config reason) = 2
status_number (statuses.Genesis part) = 3
status_number (statuses.Record which event reason) = 4
status_number (statuses.Limit which event limit) = 5
status_number statuses.ReadFault = 6
status_number statuses.WriteFault = 7
status_number statuses.NoMemory = 8
status_number (statuses.Clash which event kind kept_which) = 9
status_number (statuses.Deposits fault) = 11
status_number (statuses.Duties fault) = 12
status_number (statuses.Anchor fault) = 10

-- the status's name
unfoldable pub name_of : Status → List ℕ
name_of statuses.Done = codes "Done"
name_of statuses.Words = codes "Words"
name_of (statuses.Config reason) = codes "Config"
name_of (statuses.Genesis part) = codes "Genesis"
name_of (statuses.Record which event reason) = codes "Record"
name_of (statuses.Limit which event limit) = codes "Limit"
name_of statuses.ReadFault = codes "ReadFault"
name_of statuses.WriteFault = codes "WriteFault"
name_of statuses.NoMemory = codes "NoMemory"
name_of (statuses.Clash which event kind kept_which) = codes "Clash"
name_of (statuses.Deposits fault) = codes "Deposits"
name_of (statuses.Duties fault) = codes "Duties"
name_of (statuses.Anchor fault) = codes "Anchor"
