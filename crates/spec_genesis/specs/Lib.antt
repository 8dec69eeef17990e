pub mod Branches
pub mod InitializeBeaconStateFromEth1
pub mod Overflows
pub mod DepositsFile
pub mod MadeGenesis
