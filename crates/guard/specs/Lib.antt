-- What a guarded call answers: the operations by number, their gates, the refusals in order, and the answer that all calls share.
pub mod Operations
pub mod Gates
pub mod Refusals
pub mod Guarded
