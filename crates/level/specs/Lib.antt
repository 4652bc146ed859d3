pub use Rattle.arithmetic.specs.Sums
pub use Rattle.arithmetic.specs.Lists
pub use Rattle.cosine.specs.Kernels
pub mod Places
pub mod PairLaws
pub mod ReorderLaws
pub mod Spots
pub mod Levels
