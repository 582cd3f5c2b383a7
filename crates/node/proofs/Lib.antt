pub mod Steps
pub mod Rows
pub mod Tables
pub mod Scans
pub mod Inaugurations
pub mod Plays
