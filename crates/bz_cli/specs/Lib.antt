pub mod CommandLine
pub mod Laws
pub mod Inside
pub mod Numbers
