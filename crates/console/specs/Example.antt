-- The session of document 01, 'The program', computed: from the bytes of the film file and of the input to those of the output.
use Rattle.std.specs.Prelude.{List, [], ◌∷◌, ℕ}
use Rattle.films.specs.Layout.{encode}
use Rattle.model.specs.Figures.{film1}
use Rattle.commands.specs.Bytes.{bytes}

-- "Film 1 has sizes 8, 8, 8, 2, 6, 4 .. It is the only film."
abbrev pub film_file : List ℕ
film_file = encode (record { number = 1; sizes = film1 } ∷ [])

abbrev pub input : List ℕ
input = bytes "OPEN 20 141433 18\nBOOK 1 1 1 6 1 0 0\nBOOK 2 1 1 6 2 0 10\nBOOK 3 1 1 6 1 0 5\nPLAY\nPLAY\n"

abbrev pub output : List ℕ
output = bytes "OPENED\nBOOKED 1 0\nBOOKED 2 3\nNO 22\nROUND 0 1 0\n1 6 0 6\nROUND 1 1 1\n1 6 8 12\n"
