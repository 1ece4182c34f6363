mod Roots
pub mod Lowering
mod LowerViewing
mod LowerStaying
mod LowerGoing
pub mod LowerActing
mod Relinks
mod RootTurns
mod StillOpen
pub mod InnerMerging
mod Separators
mod NodesRead
mod Meeting
mod JoinStaying
mod JoinReading
mod JoinTelling
mod JoinWeighing
mod Choosing
mod JoinMaking
pub mod JoinPlans
mod JoinLooking
mod JoinActing
mod JoinGoing
mod JoinSteps
mod JoinTurning
mod JoinViewing
pub mod Proved
