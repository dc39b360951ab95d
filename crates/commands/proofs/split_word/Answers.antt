-- `commands::split_word` meets its contract, by where the first space stands. Assumes nothing.
use Rattle.std.proofs.Common.{rules, tests, arith, ◌≡◌, ◌+◌, ◌-◌, length, sym, ◌∙◌, length-drop, take, take_all, drop}
use Rattle.std.proofs.lemmas.Iterator.{YieldsList-from_slice}
use Rattle.std.proofs.lemmas.Iterator.Search.{position_from_yields_List}
use Rattle.commands.proofs.Words.{is_space, found_at, word-take, words-drop, words-none, found, missed}
use Rattle.commands.proofs.split_word.Goals as goal

pub returns-in-Some : goal.returns-in-Some
returns-in-Some c =
    let line = c.args.line.now in
    let at : c.position.result ≡ found_at line =
    position_from_yields_List is_space _ _ c.position.result c.position.ensures.ran (YieldsList-from_slice line cc) (λ x b q k. search (rules, tests)) in
    let f = found line c.in-Some.end (sym at ∙ c.in-Some.is) in
    let size = length-drop (c.in-Some.end + 1) line in
    let rest = drop (c.in-Some.end + 1) line in
    let whole : take (length line - (c.in-Some.end + 1)) rest ≡ rest = take_all _ _ (omega arith) in
    record {
      word = rw f.0 (sym (word-take line));
      later = rw (whole, f.0) (words-drop line f.1);
      shorter = rw whole (omega arith);
    }

pub returns-in-None : goal.returns-in-None
returns-in-None c =
    let line = c.args.line.now in
    let at : c.position.result ≡ found_at line =
    position_from_yields_List is_space _ _ c.position.result c.position.ensures.ran (YieldsList-from_slice line cc) (λ x b q k. search (rules, tests)) in
    let m = missed line (sym at ∙ c.in-None.is) in
    record { word = sym (word-take line ∙ take_all _ _ m); later = words-none line m; shorter = tt }
