mod WordsLaw
mod MapLaw
mod WholeLaw
