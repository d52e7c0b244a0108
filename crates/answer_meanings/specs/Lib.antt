pub mod AnswerLines
pub mod Conditions
pub mod Laws
pub mod SenseTexts
pub mod Words
