pub mod TasksLaws
mod CheckLemmas
mod FolderLemmas
mod Fronts
mod MarkLemmas
mod OneReply
mod Picks
mod Replies
mod RemedyLemmas
