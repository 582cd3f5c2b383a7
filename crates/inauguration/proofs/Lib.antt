mod Scans
mod Sums
mod Kept
mod Readings
mod Gathered
mod Answers
