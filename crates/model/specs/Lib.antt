-- A day by definition (document 01, from 'A day at the desk' on), and what is proved of every list of calls.

-- ---- Definitions, in the order to read them in

pub mod Day
pub mod Fit
pub mod Questions
pub mod Report
pub mod Answers
pub mod PlainDay
pub mod Soundness
pub mod Calls
pub mod Loss
pub mod Expected
pub mod Code
-- ---- Claims, for every setting, everything lent and every list of calls

pub mod FirstFit
pub mod Claim
pub mod Safety
pub mod Order
pub mod Unchanged
-- ---- Figures, by computation

pub mod Figures
pub mod Examples
pub mod QuestionExamples
-- ---- Laws that the claims rest on

pub mod FitLaws
pub mod SoundLaws
pub mod Steps
pub mod UnreadLaws
-- ---- Laws for the code

pub mod SoundTest
