-- What the probes are held to, beyond the definitions of `format`.
pub mod Constants
