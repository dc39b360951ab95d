-- The code's streams and the model's bookings are the same loads.
pub mod Given
pub mod Numbers
pub mod Standing
pub mod Tied
pub mod Ties
pub mod FitParts
pub mod Sound
pub mod ListSound
pub mod SheetOf
pub mod Start
