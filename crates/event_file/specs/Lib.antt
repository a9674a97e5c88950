pub mod FileFaults
pub mod Layout
pub mod Records
pub mod Parts
pub mod Reader
