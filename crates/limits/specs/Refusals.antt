-- Refusals, each with the question that it says no to (document 01, 'Questions at the counter' and 'The program').
-- src/refusals.rt has the same numbers.
use Rattle.std.specs.Prelude.{ℕ, Result, Ok, Err}
use Rattle.limits.specs.declared.refusals.Refusal.{Refusal}
use Rattle.limits.specs.declared.refusals.Refusal.TheVariants.{Truncated, FilmCount, FilmOrder, RoundCount, SizeCount, SizeBound, Trailing, NoFilm, Prefetch, Reserve, NoRoom, NoSchedule, Cap, DayRounds, DayLimits, Unsound, ListFull, NameTaken, NoName, NoCab, Window, NoStart, DayOver, Command, FileSize}

-- Are the bytes of this part of the film file there?
abbrev pub truncated : ℕ
truncated = 1

-- Is F 1 to 64?
abbrev pub film_count : ℕ
film_count = 2

-- Does the entry's number exceed the one before?
abbrev pub film_order : ℕ
film_order = 3

-- Is n 1 to 4,096?
abbrev pub round_count : ℕ
round_count = 4

-- Is the second count the sum of the n?
abbrev pub size_count : ℕ
size_count = 5

-- Is every size at most 16,777,215?
abbrev pub size_bound : ℕ
size_bound = 6

-- Does the file end?
abbrev pub trailing : ℕ
trailing = 7

-- Is the film in the file?
abbrev pub no_film : ℕ
no_film = 8

-- Is p at most 256?
abbrev pub prefetch_bound : ℕ
prefetch_bound = 9

-- Is b at most 16,777,215?
abbrev pub reserve_bound : ℕ
reserve_bound = 10

-- Does the lent list take what is to be written?
abbrev pub no_room : ℕ
no_room = 11

-- Does a schedule exist?
abbrev pub no_schedule : ℕ
no_schedule = 12

-- Is the cap at least the film's largest size?
abbrev pub cap_bound : ℕ
cap_bound = 13

-- Is T in range, and `now` at most T?
abbrev pub day_rounds : ℕ
day_rounds = 14

-- Is D at most 4,294,967,295 and M at most 1,099,511,627,776?
abbrev pub day_limits : ℕ
day_limits = 15

-- Is the list sound?
abbrev pub unsound : ℕ
unsound = 16

-- Is there a place below both 256 and the list's length?
abbrev pub list_full : ℕ
list_full = 17

-- Is the name new?
abbrev pub name_taken : ℕ
name_taken = 18

-- Is the name in the list?
abbrev pub no_name : ℕ
no_name = 19

-- Is some cab named?
abbrev pub no_cab : ℕ
no_cab = 20

-- Is now ≤ first ≤ last and last+p+n ≤ T?
abbrev pub window_bound : ℕ
window_bound = 21

-- Does a start in the window fit?
abbrev pub no_start : ℕ
no_start = 22

-- Is `now` below T?
abbrev pub day_over : ℕ
day_over = 23

-- Is the line a command?
abbrev pub command_form : ℕ
command_form = 24

-- Is the program's film file at most 65,536 bytes?
abbrev pub file_size : ℕ
file_size = 25

-- the number of a refusal
abbrev pub number_of : Refusal → ℕ
number_of Truncated = truncated
number_of FilmCount = film_count
number_of FilmOrder = film_order
number_of RoundCount = round_count
number_of SizeCount = size_count
number_of SizeBound = size_bound
number_of Trailing = trailing
number_of NoFilm = no_film
number_of Prefetch = prefetch_bound
number_of Reserve = reserve_bound
number_of NoRoom = no_room
number_of NoSchedule = no_schedule
number_of Cap = cap_bound
number_of DayRounds = day_rounds
number_of DayLimits = day_limits
number_of Unsound = unsound
number_of ListFull = list_full
number_of NameTaken = name_taken
number_of NoName = no_name
number_of NoCab = no_cab
number_of Window = window_bound
number_of NoStart = no_start
number_of DayOver = day_over
number_of Command = command_form
number_of FileSize = file_size

-- the number of an answer: 0, or the refusal's
abbrev pub number : {A : Type 0} → Result A Refusal → ℕ
number (Ok _) = 0
number (Err refusal) = number_of refusal
