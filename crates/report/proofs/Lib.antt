mod Steps
mod Fielded
mod Standing
mod Ending
