pub mod Records
pub mod Walks
pub mod Ledgers
pub mod Looks
pub mod Rules
pub mod Places
pub mod Laws
