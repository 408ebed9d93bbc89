pub mod Faults
pub mod Asked
pub mod Requests
pub mod Sessions
pub mod Presenting
pub mod ServiceRequests
pub mod Credentials
pub mod Replies
pub mod Taken
pub mod ServiceReplies
pub mod Passwords
pub mod ShortLaws
-- proofs cite these laws; no reader of a contract needs them
pub mod TakenLaws
