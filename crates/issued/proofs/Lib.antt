mod Tables
mod Places
mod Naming
