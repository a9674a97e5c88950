pub mod Statement
pub mod Untold
pub mod Reason
