pub mod Expressions
pub mod Statements
pub mod Callables
pub mod Parts
pub mod Programs
