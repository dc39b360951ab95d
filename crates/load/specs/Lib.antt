-- The load of a day's rounds, over streams: bookings with their film's place in the file.
pub mod Stream
pub mod Streams
pub mod Basic
pub mod Lists
pub mod StreamLaws
pub mod BasicLaws
