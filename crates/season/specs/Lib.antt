pub mod Output
pub mod Season
pub mod OutputLaws
pub mod ReplyLaws
pub mod SeasonLaws
pub mod Sentences
pub mod Whole
pub mod ReadBack
