-- Bounds, each with its unit. src/bounds.rt has the same numbers.
use Rattle.std.specs.Prelude.{ℕ}

-- ---- The film file

-- films in a file, at most
abbrev pub max_films : ℕ
max_films = 64

-- rounds of a film, at most
abbrev pub max_rounds : ℕ
max_rounds = 4096

-- bytes that a film sends in one round, at most
abbrev pub max_size : ℕ
max_size = 16777215

-- ---- A film's schedule

-- pre-fetch rounds, at most
abbrev pub max_prefetch : ℕ
max_prefetch = 256

-- reserve in bytes per round, at most
abbrev pub max_reserve : ℕ
max_reserve = 16777215

-- ---- A day

-- rounds of a day, at most
abbrev pub max_day : ℕ
max_day = 86400

-- disk limit in bytes per round, at most
abbrev pub max_disk : ℕ
max_disk = 4294967295

-- memory limit in bytes, at most
abbrev pub max_memory : ℕ
max_memory = 1099511627776

-- bookings of a day, at most
abbrev pub max_bookings : ℕ
max_bookings = 256

-- ---- The program

-- bytes of the program's film file, at most
abbrev pub hall_file : ℕ
hall_file = 65536

-- rounds of the program's day sheet
abbrev pub hall_rounds : ℕ
hall_rounds = 1024

-- places of the program's list of bookings
abbrev pub hall_places : ℕ
hall_places = 64

-- bytes of a command line, at most
abbrev pub max_line : ℕ
max_line = 200

-- digits of a numeral, at most
abbrev pub max_digits : ℕ
max_digits = 20
