-- The lemmas that the proofs share.
pub mod SpacedLaw
pub mod PrinterLaw
pub mod ScanLaw
pub mod SpellingLaw
pub mod LexerLaw
pub mod StepLaw
pub mod ExpressionLaw
pub mod SimpleLaw
pub mod StatementLaw
pub mod FunctionLaw
pub mod SourceLaw
