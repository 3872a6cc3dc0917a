mod Blanking
pub mod Fits
mod Choosing
mod Sequels
pub mod Horner
mod Writing
mod Signing
pub mod Named
