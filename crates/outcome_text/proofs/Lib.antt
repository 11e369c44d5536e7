pub mod CutLemmas
pub mod InverseLemmas
pub mod SayingLemmas
pub mod RunLemmas
pub mod OutputLaw
pub mod ItemLemmas
pub mod OldLaw
pub mod ToldLemmas
