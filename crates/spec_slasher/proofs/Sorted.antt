-- The sorted list of a list's members is the only one that ascends.
use Rattle.std.proofs.Common.{◌≡◌, ℕ, true, List}
use Rattle.std.specs.List.{Contains}
use Rattle.spec_blocks.specs.IsValidIndexedAttestation.{is_strictly_ascending}
use Rattle.spec_slasher.specs.GetIndexedAttestation.{in_order}
use Rattle.spec_slasher.proofs.Lists.{one_of, contained, in_order_ascends, into_order, of_order, ascending_same}

pub keeps : (indices : List ℕ) (i : ℕ) → Contains indices i → Contains (in_order indices) i
keeps indices i h = contained (in_order indices) i (into_order i indices (one_of indices i h))

pub adds_none : (indices : List ℕ) (i : ℕ) → Contains (in_order indices) i → Contains indices i
adds_none indices i h = contained indices i (of_order i indices (one_of (in_order indices) i h))

pub only_one : (indices sorted : List ℕ) → is_strictly_ascending sorted ≡ true → ((i : ℕ) → Contains indices i → Contains sorted i) → ((i : ℕ) → Contains sorted i → Contains indices i) → sorted ≡ in_order indices
only_one indices sorted ascends all none =
    ascending_same sorted (in_order indices) ascends (in_order_ascends indices) (λ i h. one_of (in_order indices) i (keeps indices i (none i (contained sorted i h))))
    (λ i h. one_of sorted i (all i (adds_none indices i (contained (in_order indices) i h))))
