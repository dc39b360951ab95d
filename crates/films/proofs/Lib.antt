-- Laws of the proofs: the questions one by one, the loop over the entries, and the verdict by its three groups of questions.
pub mod Laws
pub mod Accepted
pub mod CatalogueLaws
pub mod Decoded
pub mod Encoded
pub mod Examples
pub mod FilmLaws
pub mod FourLaws
pub mod LookupLaws
pub mod SizeLaws
pub mod Span
pub mod Theorems
pub mod Verdict
