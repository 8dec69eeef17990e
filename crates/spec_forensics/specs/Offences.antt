-- Offences: the first two votes of a validator, in the order in which they are carried, that nobody may cast both. All pairs are
-- looked at.
use Rattle.std.specs.Prelude.{◌≡◌, ℕ, zero, suc, ◌||◌, ◌&&◌, ◌==◌, Bool, true, Contains, List, [], ◌∷◌, ◌++◌, filter, nat_lt, Option, Some, None, if◌then◌else◌}
use Rattle.std.specs.Option.{option_map}
use Rattle.beacon_types.specs.declared.attestation_data.AttestationData.{AttestationData}
use Rattle.beacon_types.specs.Slashable.{is_slashable_attestation_data}
use Rattle.spec_forensics.specs.declared.vote.Vote.{Vote}
use Rattle.spec_forensics.specs.declared.offence.Offence.{Offence}
use Rattle.spec_forensics.specs.declared.offence.OffenceKind.{OffenceKind}
use Rattle.spec_forensics.specs.FirstPair.{first_pair}
use Rattle.spec_forensics.specs.declared.offence.OffenceKind.TheVariants.{Double, Surround}

-- is_slashable_attestation_data, in one of the two orders
unfoldable pub are_slashable : AttestationData → AttestationData → Bool
are_slashable data_1 data_2 = is_slashable_attestation_data data_1 data_2 || is_slashable_attestation_data data_2 data_1

-- the least later vote of a validator that is slashable with an earlier one of it, with the least such earlier one
unfoldable pub slashable_pair : List Vote → ℕ → Option (Vote × Vote)
slashable_pair votes validator = first_pair (λ a b. are_slashable a.content b.content) [] (filter (λ vote. vote.validator == validator) votes)

-- a double where the target epochs are equal, and else a surround
unfoldable pub kind_of : Vote → Vote → OffenceKind
kind_of a b = if a.content.target.epoch == b.content.target.epoch then Double else Surround

-- the first vote begins before the second and ends behind it
unfoldable pub surrounds : Vote → Vote → Bool
surrounds a b = nat_lt a.content.source.epoch b.content.source.epoch && nat_lt b.content.target.epoch a.content.target.epoch

-- the offence that an earlier and a later vote make: a surround has the surrounding vote first, a double the earlier one
unfoldable pub offence_by : ℕ → Vote → Vote → Offence
offence_by validator earlier later =
    if surrounds later earlier
    then record { validator = validator; kind = kind_of earlier later; first = later; second = earlier }
    else record { validator = validator; kind = kind_of earlier later; first = earlier; second = later }

-- the offence of a validator, if it has one
unfoldable pub offence_of : List Vote → ℕ → Option Offence
offence_of votes validator = option_map (λ pair. offence_by validator pair.0 pair.1) (slashable_pair votes validator)

-- a list of what is there
unfoldable pub listed : Option Offence → List Offence
listed None = []
listed (Some offence) = offence ∷ []

-- the offences of the validators below a number, in order of validator
unfoldable pub offences_below : List Vote → ℕ → List Offence
offences_below votes zero = []
offences_below votes (suc validator) = offences_below votes validator ++ listed (offence_of votes validator)

-- Both votes of an offence are among some votes, of its validator, and nobody may cast both
pub record IsCarried (votes : List Vote) (offence : Offence) : Type 0 where
  pub first : Contains votes offence.first
  pub second : Contains votes offence.second
  pub first_by : offence.first.validator ≡ offence.validator
  pub second_by : offence.second.validator ≡ offence.validator
  pub slashable : are_slashable offence.first.content offence.second.content ≡ true
