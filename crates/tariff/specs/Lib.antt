pub mod LawfulTables
pub mod LawfulTogether
pub mod Tables
pub mod Terms
pub mod Together
