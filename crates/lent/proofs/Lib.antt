-- Lemmas of the loops that copy records, and the theorems of the film reader.
pub mod FilmReader
pub mod Lists
