-- Internal: what the seat of each turn knows, how collecting goes on, the first releases, how entries are merged, and
-- who shares a value.
pub mod Seated
pub mod Collects
pub mod FirstReleases
pub mod Recording
pub mod Merging
pub mod Resting
pub mod Sharing
