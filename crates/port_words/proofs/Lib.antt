pub mod WordsSoFar
pub mod Portmapping
