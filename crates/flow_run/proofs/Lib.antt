mod Crossing
mod WatchLemmas
pub mod Preparing
pub mod ReportLemmas
pub mod ValueSearch
pub mod OutputExamples
pub mod Ending
mod RoundLemmas
mod RoundReports
pub mod CheckLemmas
pub mod Completing
mod PlainRounds
mod PlainProfiles
pub mod Plainly
pub mod Upgrading
pub mod CallExamples
pub mod StopExamples
pub mod JudgeExamples
pub mod CheckExamples
pub mod UpgradeExamples
pub mod EndExamples
pub mod RoundExamples
pub mod ProfileExamples
pub mod WatchExamples
pub mod ReadExamples
pub mod PlainExamples
pub mod RoundPlainExamples
mod GeneratedLemmas
pub mod GenerateExamples
pub mod CountExamples
