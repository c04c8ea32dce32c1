pub mod Body
pub mod Kind
pub mod Log
pub mod Name
pub mod Number
pub mod Words
