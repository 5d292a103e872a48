pub mod Ledgers
pub mod Shares
