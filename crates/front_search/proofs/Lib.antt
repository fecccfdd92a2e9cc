mod AtOnce
mod Exchange
mod Sleeping
mod States
mod Trails
