-- The loop over a journal's entries: what the rest of the entries still does to the run. Assumes nothing.
use Rattle.std.specs.Prelude.{◌≡◌, refl, Bool, cond, Option, Ok, List, [], ◌∷◌, ◌++◌, ℕ, suc, ◌+◌, ◌-◌, ◌≤◌, ◌<◌, length, take, drop}
use Rattle.std.specs.Prelude as std
use Rattle.std.proofs.Common.{sym, ap, ap₂, ◌∙◌, subst, append_assoc, append-nil, arith, take-append-drop, length-take-le, drop-drop, le-leb}
use Rattle.std.proofs.lemmas.Bool.{lt-leb}
use Rattle.model.specs.Day.{Setting, State}
use Rattle.model.specs.Code.{state_in, day_of}
use Rattle.model.specs.declared.Desk.{Desk}
use Rattle.model.specs.declared.Sheet.{Sheet}
use Rattle.questions.specs.Given.{setting_at}
use Rattle.replay.specs.Journal.{entry_at, entries_from}
use Rattle.replay.proofs.Writing.{wrote-length, wrote-front, wrote-back}
use Rattle.replay.specs.Contract.{Result, Replays}
use Rattle.replay.specs.DeskRun.{DeskRun, outcome_words, after_run, no_run, carried, desk_run, run_result, Took, Kept}
use Rattle.replay.specs.Pictured.{Pictured}
use Rattle.replay.proofs.Pictured.{pictured-next}
use Rattle.replay.specs.declared.journal.Entry.{Entry}
use Rattle.replay.specs.declared.log.Log.{Log}
use Rattle.replay.specs.declared.Replayed.{Replayed}

-- ---- one entry of a run

module _ (S : Setting) (d : State) (room : ℕ) (e : Option Entry) (es : List (Option Entry)) where
  -- it is done
  run_more : length (outcome_words (carried S d e)) ≤ room → desk_run S d room (e ∷ es)
      ≡ after_run 1 (outcome_words (carried S d e)) (desk_run S (carried S d e).state (room - length (outcome_words (carried S d e))) es)
  run_more h =
      let ws = outcome_words (carried S d e) in
      ap (λ (b : Bool). cond b (after_run 1 ws (desk_run S (carried S d e).state (room - length ws) es)) (no_run d)) (le-leb (length ws) room h)

  -- its words do not fit
  run-stops : room < length (outcome_words (carried S d e)) → desk_run S d room (e ∷ es) ≡ no_run d
  run-stops h =
      let ws = outcome_words (carried S d e) in
      ap (λ (b : Bool). cond b (after_run 1 ws (desk_run S (carried S d e).state (room - length ws) es)) (no_run d)) (lt-leb (length ws) room h)

-- a run after another
after-after : (i : ℕ) (us ws : List ℕ) (r : DeskRun) → after_run i us (after_run 1 ws r) ≡ after_run (i + 1) (us ++ ws) r
after-after i us ws r =
    let n : i + (1 + r.entries) ≡ i + 1 + r.entries = omega arith in
    let l = append_assoc us ws r.words in
    λ j. record { entries = n j; words = sym l j; state = r.state }

-- the entries from i on
entries_next : (journal : List ℕ) (i count : ℕ) → i < count → entries_from journal i (count - i) ≡ entry_at journal i ∷ entries_from journal (i + 1) (count - (i + 1))
entries_next journal i count h =
    let n : count - i ≡ suc (count - (i + 1)) = omega arith in
    let m : suc i ≡ i + 1 = omega arith in
    ap (entries_from journal i) n ∙ ap (λ (k : ℕ). entry_at journal i ∷ entries_from journal k (count - (i + 1))) m

entries-end : (journal : List ℕ) (i count : ℕ) → count ≤ i → entries_from journal i (count - i) ≡ []
entries-end journal i count h = let n : count - i ≡ 0 = omega arith in ap (entries_from journal i) n

-- a log that is given back as it was written
pub given-back : (w : Result) (old : List ℕ) (r : std.Result Replayed ℕ) (desk : Desk) (sheet : Sheet) (log log' : List ℕ) → Replays w old r desk sheet log
    → log' ≡ log → Replays w old r desk sheet log'
given-back w old r desk sheet log log' k e = subst (Replays w old r desk sheet) (sym e) k

module _ (f : List ℕ) (desk₀ : Desk) (sheet₀ : Sheet) (journal log₀ : List ℕ) (count : ℕ) where
  abbrev S : Setting
  S = setting_at f desk₀.day

  -- the whole run
  abbrev pub whole : DeskRun
  whole = desk_run S (state_in desk₀ sheet₀) (length log₀) (entries_from journal 0 count)

  -- i entries are done, and their words stand in the log up to its place
  pub record Going (log : Log) (desk : Desk) (sheet : Sheet) (i : ℕ) : Type 0 where
    pub bound : i ≤ count
    pub long : length log.words.now ≡ length log₀
    pub placed : log.at ≤ length log.words.now
    pub rest : drop log.at log.words.now ≡ drop log.at log₀
    pub fixed : setting_at f desk.day ≡ S
    pub pictured : Pictured (setting_at f desk.day) (state_in desk sheet)
    pub run : whole ≡ after_run i (take log.at log.words.now)
        (desk_run (setting_at f desk.day) (state_in desk sheet) (length log.words.now - log.at) (entries_from journal i (count - i)))

  pub going-first : Pictured S (state_in desk₀ sheet₀) → (log : Log) → log.words.now ≡ log₀ → log.at ≡ 0 → Going log desk₀ sheet₀ 0
  going-first p log e z =
      let n : length log₀ ≡ length log.words.now - log.at = omega (arith, ap length e, z) in
      let m : count ≡ count - 0 = omega arith in
      let r = ap₂ (λ (k c : ℕ). desk_run S (state_in desk₀ sheet₀) k (entries_from journal 0 c)) n m in
      let k : whole.entries ≡ 0 + whole.entries = omega arith in
      let same : whole ≡ after_run 0 [] whole = λ j. record { entries = k j; words = whole.words; state = whole.state } in
      let front : [] ≡ take log.at log.words.now = ap (λ (j : ℕ). take j log.words.now) (sym z) in
      record {
        bound = omega arith;
        long = ap length e;
        placed = omega (arith, z);
        rest = ap (drop log.at) e;
        fixed = refl;
        pictured = p;
        run = same ∙ ap₂ (after_run 0) front r;
      }

  module _ (log : Log) (desk : Desk) (sheet : Sheet) (i : ℕ) (g : Going log desk sheet i) where
    abbrev T : Setting
    T = setting_at f desk.day

    abbrev d : State
    d = state_in desk sheet

    abbrev told : Replayed
    told = record { entries = i; words = log.at }

    -- what is left when no entry follows
    stopped : whole ≡ after_run i (take log.at log.words.now) (no_run d) → Replays (run_result S whole) log₀ (Ok told) desk sheet log.words.now
    stopped e =
        let n : length (take log.at log.words.now) ≡ log.at = length-take-le log.at log.words.now g.placed in
        let ws = ap (λ (w : DeskRun). w.words) e ∙ append-nil (take log.at log.words.now) in
        let st = ap (λ (w : DeskRun). w.state) e in
        record {
          refusal = refl;
          entries = omega (arith, ap (λ (w : DeskRun). w.entries) e);
          words = sym n ∙ ap length (sym ws);
          log =
              sym (take-append-drop log.at log.words.now)
              ∙ ap₂ (λ (u v : List ℕ). u ++ v) (sym ws) (g.rest ∙ ap (λ (k : ℕ). drop k log₀) (sym n ∙ ap length (sym ws)));
          day = ap (λ (U : Setting). day_of U d) g.fixed ∙ ap (day_of S) (sym st);
          rows = ap (λ (t : State). t.records) (sym st);
          opens = ap (λ (t : State). t.opens) (sym st);
          reserves = ap (λ (t : State). t.reserves) (sym st);
          helds = ap (λ (t : State). t.helds) (sym st);
        }

    -- no entry is left
    pub going_end : count ≤ i → Replays (run_result S whole) log₀ (Ok (record { entries = count; words = log.at })) desk sheet log.words.now
    going_end h =
        let n : i ≡ count = omega (arith, g.bound) in
        subst (λ (k : ℕ). Replays (run_result S whole) log₀ (Ok (record { entries = k; words = log.at })) desk sheet log.words.now) n
        (stopped
        (g.run ∙ ap (λ (es : List (Option Entry)). after_run i (take log.at log.words.now) (desk_run T d (length log.words.now - log.at) es)) (entries-end journal i count h)))

    module _ (below : i < count) (desk' : Desk) (sheet' : Sheet) (log' : Log) where
      next-run : whole ≡ after_run i (take log.at log.words.now)
          (desk_run T d (length log.words.now - log.at) (entry_at journal i ∷ entries_from journal (i + 1) (count - (i + 1))))
      next-run =
          g.run ∙ ap (λ (es : List (Option Entry)). after_run i (take log.at log.words.now) (desk_run T d (length log.words.now - log.at) es)) (entries_next journal i count below)

      -- the next entry's words do not fit
      pub going-full : Kept T d (entry_at journal i) log desk' sheet' log'
          → Replays (run_result S whole) log₀ (Ok (record { entries = i; words = log'.at })) desk' sheet' log'.words.now
      going-full k =
          let st = k.state in
          let l = stopped
          (next-run ∙ ap (after_run i (take log.at log.words.now)) (run-stops T d (length log.words.now - log.at) (entry_at journal i) (entries_from journal (i + 1) (count - (i + 1))) k.full)) in
          record {
            refusal = refl;
            entries = l.entries;
            words = k.at ∙ l.words;
            log = k.log ∙ l.log;
            day = k.day ∙ l.day;
            rows = ap (λ (t : State). t.records) st ∙ l.rows;
            opens = ap (λ (t : State). t.opens) st ∙ l.opens;
            reserves = ap (λ (t : State). t.reserves) st ∙ l.reserves;
            helds = ap (λ (t : State). t.helds) st ∙ l.helds;
          }

      -- the next entry is done
      pub going_next : Took T d (entry_at journal i) log desk' sheet' log' → Going log' desk' sheet' (i + 1)
      going_next k =
          let out = carried T d (entry_at journal i) in
          let ws = outcome_words out in
          let es = entries_from journal (i + 1) (count - (i + 1)) in
          let w = k.wrote in
          let fit : log.at + length ws ≤ length log.words.now = omega (arith, k.fit, g.placed) in
          let size = wrote-length log.words.now log.at ws log'.words.now log'.at fit w in
          let left : length log.words.now - log.at - length ws ≡ length log'.words.now - log'.at = omega (arith, w.place) in
          let same : setting_at f desk'.day ≡ T = ap (setting_at f) k.day in
          let back : drop log'.at log.words.now ≡ drop log'.at log₀ =
          ap (λ (n : ℕ). drop n log.words.now) w.place ∙ sym (drop-drop (length ws) log.at log.words.now) ∙ ap (drop (length ws)) g.rest
          ∙ drop-drop (length ws) log.at log₀ ∙ ap (λ (n : ℕ). drop n log₀) (sym w.place) in
          let following : DeskRun = desk_run (setting_at f desk'.day) (state_in desk' sheet') (length log'.words.now - log'.at) es in
          let R : desk_run T out.state (length log.words.now - log.at - length ws) es ≡ following =
          ap₂ (λ (U : Setting) (t : State). desk_run U t (length log.words.now - log.at - length ws) es) (sym same) (sym k.state)
          ∙ ap (λ (n : ℕ). desk_run (setting_at f desk'.day) (state_in desk' sheet') n es) left in
          record {
            bound = omega arith;
            long = size ∙ g.long;
            placed = omega (arith, w.place);
            rest = wrote-back log.words.now log.at ws log'.words.now log'.at fit w ∙ back;
            fixed = same ∙ g.fixed;
            pictured =
                subst (λ (U : Setting). Pictured U (state_in desk' sheet')) (sym same)
                (subst (Pictured T) (sym k.state) (pictured-next T d g.pictured (entry_at journal i)));
            run =
                next-run
                ∙ ap (after_run i (take log.at log.words.now)) (run_more T d (length log.words.now - log.at) (entry_at journal i) es k.fit)
                ∙ after-after i (take log.at log.words.now) ws (desk_run T out.state (length log.words.now - log.at - length ws) es)
                ∙ ap₂ (after_run (i + 1)) (sym (wrote-front log.words.now log.at ws log'.words.now log'.at fit w)) R;
          }
