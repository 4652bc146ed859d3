pub mod Recordings
pub mod BlockLaws
pub mod RecordingLaws
