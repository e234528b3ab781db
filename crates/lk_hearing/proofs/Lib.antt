mod Heard
mod Remembering
