pub mod ParserErrors
