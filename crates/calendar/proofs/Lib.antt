pub mod Months
pub mod Due
pub mod Dates
pub mod Text
mod FirstDays
