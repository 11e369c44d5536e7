pub mod ListLemmas
