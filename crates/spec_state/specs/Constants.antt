-- Constants (beacon-chain.md, "Constants" and "Domain types"), and the bounds of this program.
use Rattle.std.specs.Prelude.{ℕ, List, [], ◌∷◌}

-- FAR_FUTURE_EPOCH: 2 ^ 64 - 1
abbrev pub far_future_epoch : ℕ
far_future_epoch = 18446744073709551615

-- BASE_REWARDS_PER_EPOCH
abbrev pub base_rewards_per_epoch : ℕ
base_rewards_per_epoch = 4

-- DOMAIN_BEACON_PROPOSER
abbrev pub domain_beacon_proposer : List ℕ
domain_beacon_proposer = 0 ∷ 0 ∷ 0 ∷ 0 ∷ []

-- DOMAIN_BEACON_ATTESTER
abbrev pub domain_beacon_attester : List ℕ
domain_beacon_attester = 1 ∷ 0 ∷ 0 ∷ 0 ∷ []

-- how many candidates for proposer are tried
abbrev pub max_proposer_candidates : ℕ
max_proposer_candidates = 65536

-- how many slots a state may be carried through for one event
abbrev pub max_slots : ℕ
max_slots = 65536

-- how many bytes a genesis file may have: 2 ^ 30
abbrev pub max_genesis_len : ℕ
max_genesis_len = 1073741824
