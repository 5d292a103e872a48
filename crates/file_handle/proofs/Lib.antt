mod Dumps
mod Lengths
