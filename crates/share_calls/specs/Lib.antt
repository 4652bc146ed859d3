pub mod Answers
pub mod Changes
pub mod ShareCalls
pub mod ShareCallLaws
pub mod RecordingShares
pub mod RecordingShareLaws
