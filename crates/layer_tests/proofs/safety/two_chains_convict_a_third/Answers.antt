-- The first links of both chains are those that finalise.
use Rattle.std.proofs.Common.{◌≡◌, ◌+◌, ℕ, List, ◌∷◌, refl, inl, arith}
use Rattle.beacon_types.specs.declared.checkpoint.Checkpoint.{Checkpoint}
use Rattle.ffg_law.specs.declared.link.Link.{Link}
use Rattle.ffg_law.specs.Weights.{weight_from, among}
use Rattle.ffg_law.specs.Links.{IsFinalized}
use Rattle.layer_tests.proofs.safety.two_chains_convict_a_third.Goals as goal

-- a link to the next epoch, first of the chain
next_finalizes : (from to : Checkpoint) (earlier : List Link) (n : ℕ) → from.epoch ≡ n + 1 → to.epoch ≡ n + 2 → IsFinalized (record { source = from; target = to } ∷ earlier) from
next_finalizes from to earlier n e next = record { above = omega arith; by = record { source = from; target = to }; made = inl refl; begins = refl; short = inl (omega arith) }

pub finals_conflict-requires-clause-first_finalized : goal.finals_conflict-requires-clause-first_finalized
finals_conflict-requires-clause-first_finalized c = next_finalizes _ _ _ 1 refl refl

pub finals_conflict-requires-clause-second_finalized : goal.finals_conflict-requires-clause-second_finalized
finals_conflict-requires-clause-second_finalized c = next_finalizes _ _ _ 4 refl refl

pub finals_convict-requires-clause-first_thirds : goal.finals_convict-requires-clause-first_thirds
unfolding weight_from among
finals_convict-requires-clause-first_thirds c = (omega arith, (omega arith, tt))

pub finals_convict-requires-clause-second_thirds : goal.finals_convict-requires-clause-second_thirds
unfolding weight_from among
finals_convict-requires-clause-second_thirds c = (omega arith, (omega arith, tt))

pub finals_convict-requires-clause-second_finalized : goal.finals_convict-requires-clause-second_finalized
finals_convict-requires-clause-second_finalized c = next_finalizes _ _ _ 4 refl refl
