pub mod WallText
