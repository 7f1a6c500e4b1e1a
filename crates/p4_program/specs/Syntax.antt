pub mod Expressions
pub mod Statements
pub mod Callables
pub mod Programs
pub mod Lookup
pub mod Numbering
pub mod Calls
