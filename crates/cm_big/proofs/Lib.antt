pub mod SourceLaw
