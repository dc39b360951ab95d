-- The load of a day's rounds, round by round. Definitions first; the files whose names end in Laws hold laws alone.
pub mod Carry
pub mod Table
pub mod Rows
pub mod Sums
pub mod Sheet
pub mod Kept
pub mod CarryLaws
pub mod TableLaws
pub mod RowLaws
pub mod SumLaws
pub mod SheetLaws
pub mod DaySheetLaws
pub mod KeptLaws
pub mod FeasibleLaws
pub mod Figures
