pub mod Again
pub mod Good
pub mod GoodLines
pub mod HeadAgain
pub mod ListLemmas
pub mod PageRange
