-- What the code of each pattern does.
pub mod WordLaw
pub mod StepLaw
pub mod PatternLaw
pub mod PrologueLaw
pub mod BaseLaw
pub mod OperatorLaw
pub mod TemporaryLaw
pub mod ClearLaw
pub mod JumpLaw
pub mod ParameterLaw
pub mod StandingLaw
pub mod LeavesLaw
