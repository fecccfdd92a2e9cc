pub mod Lows
pub mod Alone
pub mod Once
pub mod Registers
pub mod Repeated
