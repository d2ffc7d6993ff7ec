pub mod OneByte
pub mod Settled
pub mod CutOff
