pub mod Types
pub mod Paths
pub mod Expressions
pub mod Statements
pub mod Callables
pub mod Chains
pub mod Stores
pub mod Programs
