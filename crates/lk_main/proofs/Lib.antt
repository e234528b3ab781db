mod Leaving
mod Looking
