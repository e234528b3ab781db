mod ImageLaws
mod Steps
mod Metering
mod OpenMetering
mod Settle
mod BeginLaws
mod RebaseLaws
mod RecoverLaws
pub mod Room
pub mod StoreLaws
