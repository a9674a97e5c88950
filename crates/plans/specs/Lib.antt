pub mod Doimiy
pub mod LawfulLines
pub mod Plans
pub mod SinglePlans
pub mod Sof
pub mod ThreeLines
