pub mod Agreed
pub mod Barriers
pub mod Lists
pub mod LoggedHeld
pub mod OneRun
pub mod PassedLogged
pub mod RecordOrder
pub mod StampsRise
