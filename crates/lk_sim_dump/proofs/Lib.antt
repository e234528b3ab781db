mod Leaving
mod Printing
