pub mod Outside
pub mod Numbers
pub mod Moved
pub mod Renumbering
pub mod AroundPins
