pub mod Walk
pub mod Goes
pub mod Moments
pub mod Laws
pub mod Once
pub mod Stayed
pub mod Positions
pub mod Counting
