-- Laws of the program that the tables hold, as the patterns ask it.
pub mod Programs
pub mod Instructions
pub mod InnerLabels
pub mod Mentions
pub mod Begins
pub mod Folds
pub mod Order
pub mod Naming
pub mod Contexts
pub mod Trampolines
pub mod Ranges
