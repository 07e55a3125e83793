pub mod Allowing
pub mod Choosing
pub mod Deciding
pub mod Viewing
pub mod Planning
