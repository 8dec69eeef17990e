-- Words of this crate's own contracts.
pub mod LineViews
pub mod OnePass
