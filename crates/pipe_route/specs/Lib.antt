pub mod Firsts
pub mod Routing
