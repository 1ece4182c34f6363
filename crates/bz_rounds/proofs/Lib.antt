mod Copying
mod Due
pub mod Freezing
pub mod FromTally
mod HalvingBelow
mod HalvingInner
pub mod Lacking
mod Lasting
mod Left
mod Levels
pub mod Undisturbed
mod Made
mod Nodes
mod Parents
mod PartingRoot
mod Rising
mod RootHalving
mod Seeing
mod Staying
mod Thawed
mod Viewing
mod Wanting
mod Whichever
pub mod Proved
pub mod FromAlone
