pub mod Check
pub mod Upgrade
pub mod Rewriter
pub mod Reasons
