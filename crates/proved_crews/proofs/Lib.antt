mod Done
mod Living
