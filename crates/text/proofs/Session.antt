-- The session of document 01, 'The program', computed: the text of its answers.
use Rattle.std.specs.Prelude.{◌≡◌, refl, ◌++◌}
use Rattle.model.specs.declared.Answer.TheVariants.{Refused, Opened, Booked, Played}
use Rattle.commands.specs.Bytes.{bytes}
use Rattle.text.specs.Text.{spell, answer_fields, answer_text, line_text}

pub session-written : bytes "OPENED\nBOOKED 1 0\nBOOKED 2 3\nNO 22\nROUND 0 1 0\n1 6 0 6\nROUND 1 1 1\n1 6 8 12\n" ≡
    answer_text 0 0 Opened
    ++ answer_text 1 0 (Booked 0)
    ++ answer_text 2 0 (Booked 3)
    ++ answer_text 3 0 (Refused 22)
    ++ answer_text 0 0 (Played 1 0)
    ++ line_text (record { name = 1; read = 6; send = 0; held = 6 })
    ++ answer_text 0 1 (Played 1 1)
    ++ line_text (record { name = 1; read = 6; send = 8; held = 12 })
unfolding spell answer_fields
session-written = refl
