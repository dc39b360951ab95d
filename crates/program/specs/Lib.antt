-- The program from its film file on, by definition: the definitions in the order to read them in.
pub mod Program
pub mod Contract
pub mod Run
