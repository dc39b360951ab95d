-- Laws of the summary and of the size of a round.
pub mod RoundLaws
pub mod SummaryLaws
