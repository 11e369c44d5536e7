mod Seen
mod Numbers
mod Orders
mod Failures
mod Rising
