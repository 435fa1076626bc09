-- Internal: which fates a keeper has, with their runs; the table of a run; what a start has come to; and the rows of a
-- run's values.
pub mod FateRuns
pub mod Tables
pub mod StartedWork
pub mod Rows
