pub mod HandleBox
pub mod PieceSteps
pub mod WholeReads
pub mod LentWindows
pub mod RoutesStay
