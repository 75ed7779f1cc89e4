pub mod Roster
