mod Behind
mod Standings
mod NoSend
mod Refusals
mod Thinning
mod OnDevices
mod Carrying
mod Compactions
mod Going
pub mod Replicas
mod Grouped
mod Based
mod Alone
pub mod TakenTogether
