pub mod Own
pub mod Each
pub mod Advised
pub mod Shifts
pub mod Changes
