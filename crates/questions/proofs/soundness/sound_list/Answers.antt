-- `questions::soundness::sound_list` meets its contract: the bookings' streams are tied to them, so the tests of the streams are
-- the model's of the bookings. Assumes nothing.
use Rattle.std.proofs.Common.{sym, ◌∙◌}
use Rattle.questions.specs.ListSound.{streams-made, list-sound, streams-playable}
use Rattle.questions.proofs.soundness.sound_list.Goals as goal

pub rounds_kept-requires : goal.rounds_kept-requires
rounds_kept-requires c =
    let file = c.args.file.now in
    let xs = c.streams_of-xs.result.items in
    let made = streams-made file.bytes.now c.args.rows.now file.films.items _ xs file.accepted file.catalogue c.deref.ensures.0 c.streams_of-xs.ensures in
    let passed = rw c.deref-2.ensures.0 at (sym c.all_basic.ensures ∙ c.if-all_basic.true) in
    rw c.deref-then-all_basic.ensures.0
    (record {
      few = rw c.deref-2.ensures.0 at c.deref-2.ensures.1;
      playable = streams-playable file.bytes.now c.args.day c.args.rows.now xs file.accepted made c.requires.1 passed;
      day = c.requires.1;
    })

pub returns-then-all_basic : goal.returns-then-all_basic
returns-then-all_basic c =
    let file = c.args.file.now in
    let xs = c.streams_of-xs.result.items in
    let made = streams-made file.bytes.now c.args.rows.now file.films.items _ xs file.accepted file.catalogue c.deref.ensures.0 c.streams_of-xs.ensures in
    let differ = sym c.names_differ.ensures ∙ c.if-not-names_differ.false in
    let passed = rw c.deref-2.ensures.0 at (sym c.all_basic.ensures ∙ c.if-all_basic.true) in
    let kept = rw c.deref-then-all_basic.ensures.0 at c.rounds_kept.ensures in
    sym (list-sound file.bytes.now c.args.day c.args.rows.now xs file.accepted made ∙ rw (differ, passed) (sym kept))

pub returns-else-all_basic : goal.returns-else-all_basic
returns-else-all_basic c =
    let file = c.args.file.now in
    let xs = c.streams_of-xs.result.items in
    let made = streams-made file.bytes.now c.args.rows.now file.films.items _ xs file.accepted file.catalogue c.deref.ensures.0 c.streams_of-xs.ensures in
    let differ = sym c.names_differ.ensures ∙ c.if-not-names_differ.false in
    let failed = rw c.deref-2.ensures.0 at (sym c.all_basic.ensures ∙ c.if-all_basic.false) in
    sym (list-sound file.bytes.now c.args.day c.args.rows.now xs file.accepted made ∙ rw (differ, failed) (sym c.if-all_basic.false))
