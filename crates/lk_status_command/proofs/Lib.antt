mod Writing
mod Showing
mod Adding
