-- What a call is given, as the model takes it: the file's verdict and films, and the house's loss table.
use Rattle.std.specs.Prelude.{List, ℕ}
use Rattle.films.specs.Questions.{verdict}
use Rattle.films.specs.Decode.{films_of}
use Rattle.loss.specs.Loss.{loss_at}
use Rattle.model.specs.Day.{Setting}
use Rattle.model.specs.Code.{setting_of}
use Rattle.model.specs.declared.Day.{Day}

abbrev pub setting_at : List ℕ → Day → Setting
setting_at file day = setting_of (verdict file) (films_of file) loss_at day
