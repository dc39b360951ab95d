-- What a lent file is known by, and the calls on its films. Assumes nothing.
use Rattle.std.specs.Prelude.{◌≡◌, Bool, Option, Ok, Err, List, ℕ, length}
use Rattle.std.proofs.Common.{sym, ap, ◌∙◌, subst}
use Rattle.laws.specs.Questions.{refusal}
use Rattle.limits.specs.Refusals.{number_of, number}
use Rattle.limits.specs.declared.refusals.Refusal.{Refusal}
use Rattle.films.specs.Questions.{verdict}
use Rattle.films.specs.declared.file.FilmFile.{FilmFile}
use Rattle.model.specs.Code.{state_in}
use Rattle.model.specs.Claim.{InBetween}
use Rattle.model.specs.declared.Desk.{Desk}
use Rattle.model.specs.declared.Sheet.{Sheet}
use Rattle.questions.specs.Given.{setting_at}
use Rattle.questions.specs.Numbers.{standing_asks}
use Rattle.replay.specs.DeskRun.{Steps}
use Rattle.replay.specs.declared.file.LentFile.{LentFile}
use Rattle.replay.specs.declared.journal.Entry.{Entry}
use Rattle.replay.specs.declared.log.Log.{Log}
use Rattle.replay.proofs.Pictured.{between-asks, between-plays}

module _ (file : LentFile) where
  pub refused-verdict : (e : Refusal) → file.films ≡ Err e → verdict file.bytes.now ≡ number_of e
  refused-verdict e is = sym file.verdict ∙ ap number is

  module _ (films : FilmFile) (is : file.films ≡ Ok films) (desk : Desk) (sheet : Sheet) where
    same : films.bytes.now ≡ file.bytes.now
    same = file.same_bytes films is

    module _ (b : InBetween (setting_at file.bytes.now desk.day) (state_in desk sheet)) where
      here : InBetween (setting_at films.bytes.now desk.day) (state_in desk sheet)
      here = subst (λ (f : List ℕ). InBetween (setting_at f desk.day) (state_in desk sheet)) (sym same) b

      pub asks : refusal (standing_asks films.bytes.now desk (length sheet.opens.now) (length sheet.reserves.now) (length sheet.helds.now)) ≡ 0
      asks = between-asks films.bytes.now desk sheet.opens.now sheet.reserves.now sheet.helds.now films.accepted here

      pub plays : refusal (standing_asks films.bytes.now desk desk.day.rounds desk.day.rounds desk.day.rounds) ≡ 0
      plays = between-plays films.bytes.now desk sheet.opens.now sheet.reserves.now sheet.helds.now films.accepted here

    pub carry : (e : Option Entry) (old : Log) (done : Bool) (desk' : Desk) (sheet' : Sheet) (log' : Log)
        → Steps (setting_at films.bytes.now desk.day) (state_in desk sheet) e old done desk' sheet' log'
        → Steps (setting_at file.bytes.now desk.day) (state_in desk sheet) e old done desk' sheet' log'
    carry e old done desk' sheet' log' = subst (λ (f : List ℕ). Steps (setting_at f desk.day) (state_in desk sheet) e old done desk' sheet' log') same
