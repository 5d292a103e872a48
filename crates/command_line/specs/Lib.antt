pub mod Forms
pub mod Given
pub mod AskedTasks
pub mod Parser
pub mod ParserFinds
pub mod NextArguments
