pub mod Shares
pub mod Products
pub mod ProductLaws
pub mod LargestLaws
