mod PartLaws
pub mod DatagramLaws
mod QueueLaws
mod SeenLaws
mod OtherLaws
