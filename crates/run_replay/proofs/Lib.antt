mod Visiting
mod Walking
mod Telling
mod Knowing
mod Replays
mod Verdicts
