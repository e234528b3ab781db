mod Bits
pub mod FrameLaws
pub mod VouchLaws
pub mod KeyFileLaws
