-- The film reader as a struct that holds the file's bytes.
pub mod FilmReader
