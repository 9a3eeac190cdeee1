pub mod PageWords
pub mod StoreState
