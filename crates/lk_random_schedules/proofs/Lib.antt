mod Furthest
mod Adding
mod Happening
