-- Roots that are names for two blocks of two histories on one genesis.
use Rattle.std.specs.Prelude.{ℕ, List, [], ◌∷◌, ◌++◌, Option, Some, None, if◌then◌else◌}
use Rattle.std.specs.Option.{option_map}
use Rattle.beacon_types.specs.declared.block.BeaconBlock.{BeaconBlock}
use Rattle.spec_state.specs.declared.plain.PlainState.{PlainState}
use Rattle.spec_state.specs.Genesis.{header_root_of}
use Rattle.spec_fork_choice.specs.Store.{KeptBlock, is_kept}
unfoldable pub use Rattle.spec_fork_choice.specs.Clash.{clash_among}
use Rattle.spec_fork_choice.specs.GetForkchoiceStore.{genesis_block}
use Rattle.spec_forensics.specs.Histories.{AcceptedBlock}

-- an accepted block as a store keeps it
abbrev pub kept_block : AcceptedBlock → KeptBlock
kept_block b = record { root = b.root; block = b.block; state = b.state }

-- the blocks of a history in the order in which they were first accepted. Genesis is the first of them, at place 0
unfoldable pub first_accepted : PlainState → List AcceptedBlock → List KeptBlock
first_accepted genesis [] = record { root = header_root_of genesis; block = genesis_block genesis; state = genesis } ∷ []
first_accepted genesis (b ∷ earlier) =
    if is_kept (first_accepted genesis earlier) b.root then first_accepted genesis earlier
    else first_accepted genesis earlier ++ kept_block b ∷ []

-- which history has the root with another content, and its place there. The first history is looked at first
unfoldable pub first_or_second : Option ℕ → Option ℕ → Option (ℕ × ℕ)
first_or_second (Some place) second = Some (0, place)
first_or_second None second = option_map (λ place. (1, place)) second

unfoldable pub clash_with : PlainState → List AcceptedBlock → List AcceptedBlock → List ℕ → BeaconBlock → Option (ℕ × ℕ)
clash_with genesis first second root block =
    first_or_second (clash_among (first_accepted genesis first) root block) (clash_among (first_accepted genesis second) root block)
