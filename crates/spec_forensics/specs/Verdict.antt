-- The verdict on two histories on one genesis. A list of accepted blocks has the latest first.
use Rattle.std.specs.Prelude.{ℕ, ◌*◌, Bool, ◌||◌, ◌==◌, nat_lt, List, [], ◌∷◌, ◌++◌, map, length, reverse, Option, Some, None, if◌then◌else◌}
use Rattle.std.specs.List.{find, list_any}
use Rattle.std.specs.Option.{option_map_or}
use Rattle.ffg_law.specs.Weights.{weight_of, among}
use Rattle.beacon_types.specs.Equality.{same_root, same_checkpoint}
use Rattle.beacon_types.specs.declared.checkpoint.Checkpoint.{Checkpoint}
use Rattle.spec_state.specs.declared.plain.PlainState.{PlainState}
use Rattle.spec_state.specs.Genesis.{header_root_of}
use Rattle.spec_state.specs.Accessors.{get_current_epoch}
use Rattle.spec_forensics.specs.declared.vote.Vote.{Vote}
use Rattle.spec_forensics.specs.declared.offence.Offence.{Offence}
use Rattle.spec_forensics.specs.declared.verdict.Verdict.{Verdict}
use Rattle.spec_forensics.specs.declared.verdict.Verdict.TheVariants.{Agree, Small, Moved, Conflict}
use Rattle.spec_forensics.specs.Histories.{AcceptedBlock, chain_to}
use Rattle.spec_forensics.specs.CarriedVotes.{all_votes}
use Rattle.spec_forensics.specs.Offences.{offences_below}
use Rattle.spec_forensics.specs.Steady.{genesis_weights, genesis_total, is_steady_at}

-- ---- agreement

-- the roots of the blocks of a chain, with that of genesis
unfoldable pub roots_of : PlainState → List AcceptedBlock → List (List ℕ)
roots_of genesis chain = map (λ b. b.root) chain ++ header_root_of genesis ∷ []

-- whether a root is that of a block or of one of its ancestors, genesis among them
unfoldable pub is_on_chain : PlainState → List AcceptedBlock → List ℕ → List ℕ → Bool
is_on_chain genesis blocks block ancestor = list_any (λ root. same_root root ancestor) (roots_of genesis (chain_to blocks block))

-- whether one finalised epoch is 0, or one finalised block is the other or its ancestor
unfoldable pub is_agreed : PlainState → List AcceptedBlock → List AcceptedBlock → Checkpoint → Checkpoint → Bool
is_agreed genesis first second a b =
    ((a.epoch == 0) || (b.epoch == 0)) || (is_on_chain genesis second b.root a.root || is_on_chain genesis first a.root b.root)

-- ---- moves of the validators

-- the epoch of the first state that isn't steady, among those on which epoch processing was entered
unfoldable pub first_moved : PlainState → List PlainState → Option ℕ
first_moved genesis [] = None
first_moved genesis (state ∷ states) = if is_steady_at genesis state then first_moved genesis states else Some (get_current_epoch state)

-- a block with the epoch, if there is one, and else what comes of later blocks
unfoldable pub moved_or : List ℕ → Option ℕ → Option (List ℕ × ℕ) → Option (List ℕ × ℕ)
moved_or root (Some epoch) later = Some (root, epoch)
moved_or root None later = later

-- the first block, and the first epoch within it, at whose processing the validators aren't those of genesis; the blocks are in order
unfoldable pub moved_on : PlainState → List AcceptedBlock → Option (List ℕ × ℕ)
moved_on genesis [] = None
moved_on genesis (b ∷ later) = moved_or b.root (first_moved genesis b.entered) (moved_on genesis later)

-- the root of the finalising block: the first accepted one whose state's finalised checkpoint is this one
unfoldable pub finalizing_root : List AcceptedBlock → Checkpoint → List ℕ
finalizing_root blocks finalized = option_map_or (λ b. b.root) (find (λ b. same_checkpoint b.state.finalized_checkpoint finalized) (reverse blocks)) []

-- the chain from genesis to the finalising block, in order
unfoldable pub finalizing_chain : List AcceptedBlock → Checkpoint → List AcceptedBlock
finalizing_chain blocks finalized = reverse (chain_to blocks (finalizing_root blocks finalized))

-- ---- the offenders' balance

-- what offenders have at genesis, where they are active there
unfoldable pub balance_of : PlainState → List Offence → ℕ
balance_of genesis offences = weight_of (genesis_weights genesis) (among (map (λ offence. offence.validator) offences))

-- ---- the verdict

unfoldable pub unless_moved : ℕ → Option (List ℕ × ℕ) → Verdict → Verdict
unless_moved which (Some at) verdict = Moved which at.0 at.1
unless_moved which None verdict = verdict

-- the offences of all validators that the genesis registry has
unfoldable pub offences_of : PlainState → List AcceptedBlock → List AcceptedBlock → List Offence
offences_of genesis first second = offences_below (all_votes genesis first second) (length genesis.validators)

-- The verdict is the first that applies. The checkpoints are those that the histories finalised at their end: the store's
unfoldable pub verdict_of : PlainState → List AcceptedBlock → List AcceptedBlock → Checkpoint → Checkpoint → Verdict
verdict_of genesis first second a b =
    if is_agreed genesis first second a b then Agree
    else if nat_lt (genesis_total genesis) (2 * genesis.preset.effective_balance_increment) then Small (genesis_total genesis)
    else unless_moved 0 (moved_on genesis (finalizing_chain first a)) (unless_moved 1 (moved_on genesis (finalizing_chain second b))
    (Conflict (balance_of genesis (offences_of genesis first second)) (genesis_total genesis)))
