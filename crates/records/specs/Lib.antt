pub mod Replies
pub mod CallLaws
pub mod ReplyLaws
pub mod AfterLaws
pub mod Sentences
