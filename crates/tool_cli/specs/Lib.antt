pub mod Telling
pub mod Words
pub mod Place
pub mod Why
pub mod Program
