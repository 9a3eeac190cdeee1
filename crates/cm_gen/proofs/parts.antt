-- What the definitions of the code say as the functions match on what they put down.
pub mod BuilderLaw
pub mod CodeLaw
pub mod ExpressionLaw
pub mod StatementLaw
pub mod FunctionLaw
pub mod LayoutLaw
pub mod LayingLaw
