pub mod Bits
pub mod Joined
pub mod Pass
pub mod Rounds
pub mod SixteenLanes
pub mod Found
pub mod Members
pub mod Parts
