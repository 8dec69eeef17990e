pub mod ActiveIndices
pub mod BeaconCommittees
pub mod StateLaws
pub mod Limits
pub mod Writings
pub mod Genesis
pub mod Digests
