pub mod Causes
pub mod Limits
pub mod CauseLaws
pub mod LimitLaws
