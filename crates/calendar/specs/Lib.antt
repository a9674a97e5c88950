pub mod Gregorian
pub mod Dates
pub mod Due
pub mod Agreement
pub mod Text
pub mod Conversions
