pub mod Recordings
pub mod RecordingLaws
