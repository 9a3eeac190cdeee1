pub mod Answer
pub mod Found
pub mod Finding
pub mod FunctionTable
pub mod Role
pub mod Visible
pub mod Argument
pub mod Passing
