-- Looking the kept state of a checkpoint up.
use Rattle.std.proofs.Common.{◌≡◌, ℕ, ◌+◌, ◌<◌, ◌≤◌, true, false, cond, Some, None, List, length, drop, get_or, slice_get, refl, ap, ◌∙◌}
use Rattle.std.specs.List.{find}
use Rattle.std.proofs.lemmas.List.{drop_all}
use Rattle.std.proofs.lemmas.Option.{slice_get-get_or}
use Rattle.beacon_types.specs.Equality.{same_checkpoint}
use Rattle.beacon_types.specs.declared.checkpoint.Checkpoint.{Checkpoint}
use Rattle.spec_blocks.proofs.Each.{from_item}
use Rattle.fork_store.specs.inside.Kept.{CheckpointState, checkpoint_state_of}

opens : (states : List CheckpointState) (checkpoint : Checkpoint) (i : ℕ) (kept : CheckpointState) → slice_get states i ≡ Some kept → checkpoint_state_of (drop i states) checkpoint ≡ cond (same_checkpoint kept.checkpoint checkpoint) (Some kept) (checkpoint_state_of (drop (i + 1) states) checkpoint)
unfolding checkpoint_state_of
opens states checkpoint i kept is = ap (λ (l : List CheckpointState). find (λ k. same_checkpoint k.checkpoint checkpoint) l) (from_item states i kept is)

pub state_begin : (states : List CheckpointState) (checkpoint : Checkpoint) → checkpoint_state_of (drop 0 states) checkpoint ≡ checkpoint_state_of states checkpoint
state_begin states checkpoint = refl

pub state_end : (states : List CheckpointState) (checkpoint : Checkpoint) (i : ℕ) → length states ≤ i → checkpoint_state_of (drop i states) checkpoint ≡ None
unfolding checkpoint_state_of
state_end states checkpoint i past = ap (λ (l : List CheckpointState). find (λ k. same_checkpoint k.checkpoint checkpoint) l) (drop_all i states past)

pub state_found : (states : List CheckpointState) (checkpoint : Checkpoint) (i : ℕ) (d : CheckpointState) → i < length states → same_checkpoint (get_or states i d).checkpoint checkpoint ≡ true → checkpoint_state_of (drop i states) checkpoint ≡ Some (get_or states i d)
state_found states checkpoint i d inside is = opens states checkpoint i (get_or states i d) (slice_get-get_or states i d inside) ∙ ap (λ b. cond b (Some (get_or states i d)) (checkpoint_state_of (drop (i + 1) states) checkpoint)) is

pub state_passed : (states : List CheckpointState) (checkpoint : Checkpoint) (i : ℕ) (d : CheckpointState) → i < length states → same_checkpoint (get_or states i d).checkpoint checkpoint ≡ false → checkpoint_state_of (drop i states) checkpoint ≡ checkpoint_state_of (drop (i + 1) states) checkpoint
state_passed states checkpoint i d inside is = opens states checkpoint i (get_or states i d) (slice_get-get_or states i d inside) ∙ ap (λ b. cond b (Some (get_or states i d)) (checkpoint_state_of (drop (i + 1) states) checkpoint)) is

pub ruleset find_state = (state_begin, state_end, state_found, state_passed)
