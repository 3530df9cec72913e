pub mod Raw
pub mod Probes
