pub mod LabelSets
pub mod Making
pub mod PropLists
pub mod Knows
