pub mod MemberOf
pub mod Operands
pub mod Operators
pub mod Unary
