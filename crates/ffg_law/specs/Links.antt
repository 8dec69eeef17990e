-- Links between checkpoints, in the words of the Casper FFG paper: justified and finalised checkpoints, and the two
-- slashing conditions.
use Rattle.std.specs.Prelude.{◌≡◌, ◌<◌, ◌≤◌, ◌⊎◌, ℕ, ◌+◌, Bool, true, List, [], ◌∷◌, map}
use Rattle.std.specs.List.{AllByRecursion}
use Rattle.beacon_types.specs.declared.checkpoint.Checkpoint.{Checkpoint}
use Rattle.beacon_types.specs.declared.attestation_data.AttestationData.{AttestationData}
use Rattle.ffg_law.specs.declared.link.Link.{Link}
use Rattle.ffg_law.specs.declared.link.VotedLink.{VotedLink}
use Rattle.ffg_law.specs.Weights.{among, IsTwoThirds, IsThird}

-- the link that an attestation votes for
abbrev pub link_of : AttestationData → Link
link_of content = record { source = content.source; target = content.target }

-- a link with the validators that voted for it
pub record Voted : Type 0 where
  pub link : Link
  pub validators : List ℕ

-- the links of a slice, with their validators
abbrev pub voted : List VotedLink → List Voted
voted links = map (λ v. record { link = v.link; validators = v.validators.now }) links

abbrev pub links_of : List Voted → List Link
links_of votes = map (λ v. v.link) votes

-- it is one of them
abbrev pub IsOneOf : {A : Type 0} → A → List A → Type 0
IsOneOf x [] = ⊥
IsOneOf x (y ∷ ys) = (y ≡ x) ⊎ IsOneOf x ys

-- A checkpoint is justified by links: it is that of genesis, or the target of one of them
abbrev pub IsJustified : Checkpoint → List Link → Checkpoint → Type 0
IsJustified genesis links c = (genesis ≡ c) ⊎ IsOneOf c (map (λ l. l.target) links)

-- A chain of links from genesis, the latest first: each begins at a checkpoint that the earlier ones justify
abbrev pub IsChain : Checkpoint → List Link → Type 0
IsChain genesis [] = Unit {0}
IsChain genesis (l ∷ earlier) = IsJustified genesis earlier l.source × IsChain genesis earlier

-- Some link leads to a checkpoint of the epoch
abbrev pub Reaches : List Link → ℕ → Type 0
Reaches links epoch = IsOneOf epoch (map (λ l. l.target.epoch) links)

-- The link goes to the next epoch, or to the one after it where a checkpoint of the epoch between is justified
abbrev pub IsShort : List Link → Link → Type 0
IsShort links l = (l.target.epoch ≡ l.source.epoch + 1) ⊎ ((l.target.epoch ≡ l.source.epoch + 2) × Reaches links (l.source.epoch + 1))

-- A chain finalises a checkpoint above epoch 0: a short link of it begins there
pub record IsFinalized (links : List Link) (c : Checkpoint) : Type 0 where
  pub above : 0 < c.epoch
  pub by : Link
  pub made : IsOneOf by links
  pub begins : by.source ≡ c
  pub short : IsShort links by

-- Two chains share no target checkpoint of this epoch or a later one
abbrev pub AreApart : ℕ → List Link → List Link → Type 0
AreApart epoch first second = (a b : Link) → IsOneOf a first → IsOneOf b second → epoch ≤ a.target.epoch → a.target ≡ b.target → ⊥

-- A double vote: two links to different checkpoints of one epoch
abbrev pub IsDouble : Link → Link → Type 0
IsDouble a b = (a.target.epoch ≡ b.target.epoch) × (a.target ≡ b.target → ⊥)

-- A surround vote: the first link begins before the second and ends behind it
abbrev pub Surrounds : Link → Link → Type 0
Surrounds a b = (a.source.epoch < b.source.epoch) × (b.target.epoch < a.target.epoch)

-- Nobody may vote for both
abbrev pub IsSlashable : Link → Link → Type 0
IsSlashable a b = IsDouble a b ⊎ (Surrounds a b ⊎ Surrounds b a)

-- Each chain has a link such that nobody may vote for both
pub record Conflict (first second : List Link) : Type 0 where
  pub a : Link
  pub b : Link
  pub a_made : IsOneOf a first
  pub b_made : IsOneOf b second
  pub slashable : IsSlashable a b

-- A validator voted for two links, one of each chain, for which nobody may vote both
pub record IsConvicted (first second : List Voted) (validator : ℕ) : Type 0 where
  pub a : Voted
  pub b : Voted
  pub a_made : IsOneOf a first
  pub b_made : IsOneOf b second
  pub voted_a : among a.validators validator ≡ true
  pub voted_b : among b.validators validator ≡ true
  pub slashable : IsSlashable a.link b.link

-- each link has votes of at least two thirds of all weight
abbrev pub HaveTwoThirds : List ℕ → List Voted → Type 0
HaveTwoThirds weights votes = AllByRecursion (λ v. IsTwoThirds weights (among v.validators)) votes

-- The validators that are convicted have at least a third of all weight: so has each set that holds all of them
abbrev pub AThirdIsConvicted : List ℕ → List Voted → List Voted → Type 0
AThirdIsConvicted weights first second =
    (set : ℕ → Bool) → ((validator : ℕ) → IsConvicted first second validator → set validator ≡ true) → IsThird weights set
