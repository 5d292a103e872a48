pub mod Outside
pub mod Left
