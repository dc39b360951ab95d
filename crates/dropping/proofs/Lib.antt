pub mod RemovalLaws
pub mod StandingLaws
pub mod Laws
