mod Behind
mod Looking
mod Ranges
mod Drilled
mod Transactions
mod Serial
mod Expected
mod Whole
