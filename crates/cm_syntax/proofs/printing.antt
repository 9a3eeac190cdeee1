-- The canonical text of a tree has the tree again.
pub mod Laying
pub mod TextLaw
pub mod Printing
pub mod StatementPrinting
pub mod SoundToken
pub mod ProgramPrinting
