use Rattle.std.proofs.Common.{◌≡◌, ◌∙◌, sym, [], ◌∷◌, ◌++◌, take, get_or, length-append, arith}
use Rattle.model.specs.Calls.{no_booking}
use Rattle.load.specs.StreamLaws.{open-place}
use Rattle.load.specs.Streams.{stream_of}
use Rattle.films.specs.Catalogue.{catalogue_of}
use Rattle.questions.specs.Given.{setting_at}
use Rattle.questions.specs.Tied.{Tied, tied-open}
use Rattle.playing.specs.Ready.{row-made, row-tied, row-exists, row-playable}
use Rattle.playing.specs.LineLaws.{line-tied, lines-open, lines-shut}
use Rattle.playing.proofs.lines.lines_of.Goals as goal
use Rattle.playing.proofs.lines.lines_of.Goals.{then-open_in, else-open_in}

pub line_of-requires-clause-playable : goal.line_of-requires-clause-playable
line_of-requires-clause-playable c =
    let file = c.args.film_file.now in
    let desk = c.args.desk.now in
    let rows = take desk.day.count desk.rows in
    let i = c.loop-b.b-index in
    let b = get_or rows i no_booking in
    let made : c.stream_of-x.result ≡ stream_of (catalogue_of file.bytes.now) b =
    row-made file.bytes.now desk file.accepted b file.films.items c.deref.result.now c.stream_of-x.result file.catalogue c.deref.ensures.0 c.stream_of-x.ensures in
    rw made (row-playable file.bytes.now desk file.accepted c.requires i c.loop-b-test.true)

pub line_of-requires-clause-started : goal.line_of-requires-clause-started
line_of-requires-clause-started c =
    (open-place c.args.desk.now.day.now c.stream_of-x.result (sym c.if-open_in.ensures)).0

pub line_of-requires-clause-not_over : goal.line_of-requires-clause-not_over
line_of-requires-clause-not_over c =
    (open-place c.args.desk.now.day.now c.stream_of-x.result (sym c.if-open_in.ensures)).1

pub loop-b-preserved : goal.loop-b-preserved
loop-b-preserved c =
    let file = c.args.film_file.now in
    let desk = c.args.desk.now in
    let rows = take desk.day.count desk.rows in
    let i = c.loop-b.b-index in
    let b = get_or rows i no_booking in
    let x = c.stream_of-x.result in
    let S = setting_at file.bytes.now desk.day in
    let made : x ≡ stream_of (catalogue_of file.bytes.now) b =
    row-made file.bytes.now desk file.accepted b file.films.items c.deref.result.now x file.catalogue c.deref.ensures.0 c.stream_of-x.ensures in
    let tied : Tied S file.bytes.now b x = rw made (row-tied file.bytes.now desk file.accepted b) in
    elim c.if-open_in.branch [
      | then-open_in w ↦
          let opened = sym w.if-open_in.ensures in
          let yes = tied-open S file.bytes.now b x tied desk.day.now ∙ opened in
          let exist = row-exists file.bytes.now desk file.accepted c.requires i c.loop-b-test.true in
          let line = w.line_of.ensures ∙ line-tied S file.bytes.now desk.day.now b x tied exist opened in
          let lines : c.if-open_in.lines.items ≡ c.loop-b.lines.items ++ (w.line_of.result ∷ []) = rw w.lines-is w.push.ensures.items in (
            rw (lines, line, c.loop-b.invariant.0) (sym (lines-open S desk.day.now rows i no_booking c.loop-b-test.true yes)),
            rw lines (omega (arith, length-append c.loop-b.lines.items (w.line_of.result ∷ []))),
          )
      | else-open_in w ↦
          let no = tied-open S file.bytes.now b x tied desk.day.now ∙ sym w.if-open_in.ensures in (
            rw (w.lines-is, c.loop-b.invariant.0) (sym (lines-shut S desk.day.now rows i no_booking c.loop-b-test.true no)),
            rw w.lines-is (omega arith),
          )
    ]
