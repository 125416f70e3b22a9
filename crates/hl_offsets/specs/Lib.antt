pub mod Log
pub mod Place
