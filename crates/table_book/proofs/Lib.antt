mod Copies
mod Lasting
mod Places
mod Rows
mod Sums
