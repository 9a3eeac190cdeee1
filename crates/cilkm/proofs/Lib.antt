pub mod CutLaw
pub mod PieceLaw
pub mod BuiltLaw
pub mod SettingLaw
pub mod AskedLaw
pub mod SourceLaw
pub mod StepsLaw
pub mod StillLaw
