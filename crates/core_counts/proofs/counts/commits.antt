pub mod Counted
pub mod Laws
pub mod Machines
pub mod Puts
pub mod Rooms
pub mod Saves
pub mod WithRoom
