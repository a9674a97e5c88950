pub mod ThreeLines
pub mod Examples
