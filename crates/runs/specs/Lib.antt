pub mod Accepted
pub mod Automaton
pub mod Slots
pub mod Reaction
