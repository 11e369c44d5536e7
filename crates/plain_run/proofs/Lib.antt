pub mod LoadLemmas
mod ToldReplies
pub mod RightTexts
