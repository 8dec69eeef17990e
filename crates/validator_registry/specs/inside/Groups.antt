-- A registry in groups of sixteen.
use Rattle.std.specs.Prelude.{◌≡◌, ℕ, ◌<◌, ◌≤◌, ◌^◌, List, [], ◌∷◌, ◌++◌, length, map, Option, Some, None}
use Rattle.hash_tree.specs.Merkle.{merkle_root}
use Rattle.beacon_types.specs.declared.validator.Validator.{Validator}
use Rattle.beacon_types.specs.Containers.{validator_codec}
use Rattle.validator_registry.specs.Registries.{registry_root}
use Rattle.validator_registry.specs.declared.member.Member.{Member}

-- the validator that a member is with an effective balance
abbrev pub validator_of : Member → ℕ → Validator
validator_of member balance = record member.validator { effective_balance = balance }

-- the validators that members are with the balances, as many as there are of both
unfoldable pub validators_of : List Member → List ℕ → List Validator
validators_of [] balances = []
validators_of (member ∷ members) [] = []
validators_of (member ∷ members) (balance ∷ balances) = validator_of member balance ∷ validators_of members balances

-- the root of a group: that of a tree with sixteen leaves
abbrev pub group_root : List Validator → List ℕ
group_root validators = merkle_root 4 (map validator_codec.hash_tree_root validators)

-- the validators of all groups
unfoldable pub joined : List (List Validator) → List Validator
joined [] = []
joined (group ∷ groups) = group ++ joined groups

-- each group has at most sixteen validators, and sixteen where there is one behind it
abbrev pub AreGroups : List (List Validator) → Type 0
AreGroups [] = Unit {0}
AreGroups (group ∷ groups) = (length group ≤ 16) × (0 < length (joined groups) → length group ≡ 16) × AreGroups groups

-- a group holds its members with their balances
pub record IsGroup (members : List Member) (balances : List ℕ) : Type 0 where
  pub few : length members ≤ 16
  pub room : length balances ≡ 16

-- the first of the validators with those behind it, or none where there are none
abbrev pub FirstOf : List Validator → Option (Validator × List Validator) → Type 0
FirstOf validators (Some first) = validators ≡ first.0 ∷ first.1
FirstOf validators None = validators ≡ []

-- the full tree of the groups of these validators, of which those behind the last one are empty
pub record IsTreeOf (validators : List Validator) (tree : ℕ × List (List Validator)) (depth : ℕ) : Type 0 where
  pub depth_is : tree.0 ≡ depth
  pub low : depth ≤ 36
  pub full : length tree.1 ≡ 2 ^ depth
  pub groups : AreGroups tree.1
  pub validators_are : joined tree.1 ≡ validators

-- what a registry keeps
pub record IsRegistry (tree : ℕ × List (List Validator)) (depth len : ℕ) (root : List ℕ) : Type 0 where
  pub tree_is : IsTreeOf (joined tree.1) tree depth
  pub len_is : len ≡ length (joined tree.1)
  pub root_is : root ≡ registry_root (joined tree.1)
