pub mod Doing
pub mod Lists
pub mod PlaceLaws
pub mod SenderPlaceLaws
pub mod SenderTurns
pub mod Turning
