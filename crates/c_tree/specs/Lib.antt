-- Folds over the trees of a source and what is asked of trees, each file behind those that it cites: spelling, levels of
-- nesting, and the kinds of typed trees. `Examples` holds closed cases.
pub mod Layers
pub mod Spelling
pub mod Levels
pub mod Nesting
pub mod Levelled
pub mod TypedKinds
pub mod TypedUnits
pub mod Examples
pub mod TypedLists
pub mod TypedStatementLists
