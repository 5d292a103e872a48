mod Called
mod Refusing
mod Counts
mod Rests
mod Joined
mod Taken
