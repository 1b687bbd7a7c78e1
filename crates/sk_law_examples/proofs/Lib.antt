mod Computes
mod Replay
mod Lawfulness
mod Journeys
mod Wrongs
mod Unsafes
mod Living
mod Circles
