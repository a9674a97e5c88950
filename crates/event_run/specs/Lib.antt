pub mod Postings
pub mod Coded
pub mod Journals
pub mod Listing
pub mod FileLaw
