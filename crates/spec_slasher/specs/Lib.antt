pub mod GetIndexedAttestation
pub mod AttestationOf
pub mod Operations
pub mod Accepts
pub mod Written
