pub mod DayAnswer
pub mod DayText
pub mod Replay
pub mod Replayed
pub mod Verdict
pub mod WallAnswer
pub mod WallText
