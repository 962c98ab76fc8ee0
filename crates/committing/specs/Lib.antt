pub mod TwoPhases
