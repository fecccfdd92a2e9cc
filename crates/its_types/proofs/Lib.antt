pub mod Powers
pub mod PairOrder
pub mod Rising
pub mod Words
