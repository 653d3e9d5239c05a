pub mod Choice
pub mod ChoiceWithDefinitions
pub mod Definitions
pub mod Pairs
pub mod SplitTree
pub mod inner
