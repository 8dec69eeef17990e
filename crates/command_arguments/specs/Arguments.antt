-- The commands of the program with their arguments. The name of a file is the list of its bytes.
use Rattle.std.specs.Prelude.{ℕ, ◌≤◌, List, [], ◌∷◌, Option, Some, None}

-- how many nodes there can be
abbrev pub least_nodes : ℕ
least_nodes = 2

abbrev pub most_nodes : ℕ
most_nodes = 16

-- so many nodes there can be
pub record IsNodeCount (count : ℕ) : Type 0 where
  pub least : least_nodes ≤ count
  pub most : count ≤ most_nodes

-- the files that the command `replay CONFIG GENESIS RECORD` names
pub record ReplayFiles : Type 0 where
  pub config : List ℕ
  pub genesis : List ℕ
  pub events : List ℕ

-- what the command `drill NUMBER CONFIG` names: the number that the chain is made from, and a file
pub record DrillWords : Type 0 where
  pub number : ℕ
  pub config : List ℕ

-- the files that the command `genesis CONFIG DEPOSITS` names
pub record GenesisFiles : Type 0 where
  pub config : List ℕ
  pub deposits : List ℕ

-- what the command `duties CONFIG STATE EPOCH` names: two files and an epoch
pub record DutiesWords : Type 0 where
  pub config : List ℕ
  pub state : List ℕ
  pub epoch : ℕ

-- the files that the command `anchor CONFIG STATE BLOCK RECORD` names
pub record AnchorFiles : Type 0 where
  pub config : List ℕ
  pub state : List ℕ
  pub block : List ℕ
  pub events : List ℕ

-- the files that the commands `forensic CONFIG GENESIS A B` and `slasher CONFIG GENESIS A B` name
pub record ForensicFiles : Type 0 where
  pub config : List ℕ
  pub genesis : List ℕ
  pub first : List ℕ
  pub second : List ℕ

-- what the command `nodes NUMBER COUNT CONFIG` names: the number that the chains are made from, how many nodes there are, and a file
pub record NodesWords : Type 0 where
  pub number : ℕ
  pub count : ℕ
  pub config : List ℕ

-- a command with its arguments
pub data Command : Type 0 where
  replay : ReplayFiles → Command
  drill : DrillWords → Command
  genesis : GenesisFiles → Command
  duties : DutiesWords → Command
  anchor : AnchorFiles → Command
  forensic : ForensicFiles → Command
  nodes : NodesWords → Command
  slasher : ForensicFiles → Command

-- the files that the command names, in the order in which they are asked for
abbrev pub names_of : Option Command → List (List ℕ)
names_of None = []
names_of (Some (replay files)) = files.config ∷ files.genesis ∷ files.events ∷ []
names_of (Some (drill words)) = words.config ∷ []
names_of (Some (genesis files)) = files.config ∷ files.deposits ∷ []
names_of (Some (duties words)) = words.config ∷ words.state ∷ []
names_of (Some (anchor files)) = files.config ∷ files.state ∷ files.block ∷ files.events ∷ []
names_of (Some (forensic files)) = files.config ∷ files.genesis ∷ files.first ∷ files.second ∷ []
names_of (Some (nodes words)) = words.config ∷ []
names_of (Some (slasher files)) = files.config ∷ files.genesis ∷ files.first ∷ files.second ∷ []
