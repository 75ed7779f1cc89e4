pub mod Plains
pub mod Plans
