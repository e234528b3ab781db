mod Standing
mod Dumping
mod Writing
