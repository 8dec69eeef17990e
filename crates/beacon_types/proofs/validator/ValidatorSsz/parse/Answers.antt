use Rattle.ssz_codec.specs.Layout.{cut}
use Rattle.ssz_codec.specs.Basic.{uint64, boolean, bytes32, bytes48}
use Rattle.ssz_codec.specs.Containers.{layout_of}
use Rattle.ssz_codec.proofs.Fieldwise.{eight_read, eight_unread}
use Rattle.beacon_types.specs.Containers.{validator_fields}
use Rattle.beacon_types.proofs.validator.ValidatorSsz.parse.Goals as goal

-- the eight fields are read
pub returns-in-Ok-read_container : goal.returns-in-Ok-read_container
returns-in-Ok-read_container c =
    eight_read bytes48 bytes32 uint64 boolean uint64 uint64 uint64 uint64
    (λ pubkey credentials balance slashed eligibility activation exit withdrawable. record { pubkey = pubkey; withdrawal_credentials = credentials; effective_balance = balance; slashed = slashed; activation_eligibility_epoch = eligibility; activation_epoch = activation; exit_epoch = exit; withdrawable_epoch = withdrawable })
    (cut (layout_of validator_fields) c.args.bytes.now) _ _ _ _ _ _ _ _ c.in-Ok-read_container.ensures

-- one of them isn't
pub returns-in-Err-read_container : goal.returns-in-Err-read_container
returns-in-Err-read_container c =
    eight_unread bytes48 bytes32 uint64 boolean uint64 uint64 uint64 uint64
    (λ pubkey credentials balance slashed eligibility activation exit withdrawable. record { pubkey = pubkey; withdrawal_credentials = credentials; effective_balance = balance; slashed = slashed; activation_eligibility_epoch = eligibility; activation_epoch = activation; exit_epoch = exit; withdrawable_epoch = withdrawable })
    (cut (layout_of validator_fields) c.args.bytes.now) _ c.in-Err-read_container.ensures
