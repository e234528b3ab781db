mod HostLaws
mod SelfProbing
