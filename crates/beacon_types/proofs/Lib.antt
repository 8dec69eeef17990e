pub mod AttestationLanes
pub mod Empty
pub mod Equality
pub mod Lanes
