-- The lemmas that the proofs share.
pub mod VariableLaw
pub mod ScopeLaw
pub mod StepLaw
pub mod SizeLaw
pub mod StatementLaw
pub mod TableLaw
pub mod ExpressionLaw
pub mod FaultLaw
pub mod ResolverLaw
