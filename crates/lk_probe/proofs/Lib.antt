mod Codec
mod PartLaws
mod DatagramLaws
mod Lengths
mod Strangers
