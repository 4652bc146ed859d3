pub mod Answers
pub mod FloatCalls
pub mod FloatCallLaws
