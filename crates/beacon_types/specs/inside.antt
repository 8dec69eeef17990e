pub mod AttestationChunks
pub mod RootedAttestations
pub mod ValidatorChunks
