pub mod CallLines
pub mod Verbs
pub mod Scripts
pub mod Shown
pub mod Faults
pub mod Reading
pub mod OldScripts
pub mod Faultless
