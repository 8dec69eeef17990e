use Rattle.ssz_codec.specs.Layout.{cut}
use Rattle.ssz_codec.specs.Basic.{uint64}
use Rattle.ssz_codec.specs.Containers.{layout_of}
use Rattle.ssz_codec.proofs.Fieldwise.{two_read, two_unread}
use Rattle.beacon_types.specs.Containers.{voluntary_exit_fields}
use Rattle.beacon_types.proofs.voluntary_exit.VoluntaryExitSsz.parse.Goals as goal

-- the two fields are read
pub returns-in-Ok-read_container : goal.returns-in-Ok-read_container
returns-in-Ok-read_container c =
    two_read uint64 uint64 (λ epoch validator. record { epoch = epoch; validator_index = validator })
    (cut (layout_of voluntary_exit_fields) c.args.bytes.now) _ _ c.in-Ok-read_container.ensures

-- one of them isn't
pub returns-in-Err-read_container : goal.returns-in-Err-read_container
returns-in-Err-read_container c =
    two_unread uint64 uint64 (λ epoch validator. record { epoch = epoch; validator_index = validator })
    (cut (layout_of voluntary_exit_fields) c.args.bytes.now) _ c.in-Err-read_container.ensures
