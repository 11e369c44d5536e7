pub mod PutBack
pub mod RolledBack
pub mod CallsUndone
