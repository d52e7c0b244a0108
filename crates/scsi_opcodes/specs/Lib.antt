pub mod Answers
pub mod Commands
pub mod Laws
pub mod Opcodes
