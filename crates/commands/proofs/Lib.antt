-- What the functions' proofs share.
mod Words
mod Numerals
mod Commands
