pub mod Text
pub mod Setting
pub mod SettingReading
pub mod Environment
pub mod Wrong
pub mod Table
