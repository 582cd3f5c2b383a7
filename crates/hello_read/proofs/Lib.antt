pub mod Turns
pub mod Numbers
pub mod Walks
pub mod Frames
pub mod Judging
