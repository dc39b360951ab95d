-- A run of the program line by line, and by the commands of its lines. Assumes nothing.
use Rattle.std.specs.Prelude.{◌≡◌, Bool, cond}
use Rattle.std.proofs.Math.Path.{refl, sym}
use Rattle.std.proofs.Common.{ap, ◌∙◌}
use Rattle.std.proofs.Math.Bool.{true, false}
use mathlib.Core.List.{List, [], ◌∷◌, ◌++◌, map, append-nil}
use Prim.Native.Nat.{ℕ}
use Rattle.lines.specs.Lines.{command_held, held_of, fed, given}
use Rattle.lines.specs.Feeding.{fed_line, after_line}
use Rattle.lines.specs.declared.Splitter.{Splitter}
use Rattle.console.specs.Session.{SessionState}
use Rattle.console.specs.Contract.{After, step_of, printed}
use Rattle.program.specs.Contract.{nothing, answered, served_of, ended_of}
use Rattle.program.specs.Run.{front, read_text, reads_text, joined}
use Rattle.program.proofs.Laws.{answered-none}

module _ (file : List ℕ) where
  -- ---- A read, line after line

  module _ (next : SessionState → Splitter → List ℕ → List ℕ) where
    -- what is printed from the splitter q on, whose line is answered first if it has ended
    abbrev on_from : SessionState → List ℕ → Splitter → List ℕ → List ℕ
    on_from s buffer q rest =
        let after = answered file s q buffer in
        front after ++ read_text file next after.state q after.buffer rest

    on_from-none : (s : SessionState) (buffer : List ℕ) (q : Splitter) (rest : List ℕ) → q.ended ≡ false
        → on_from s buffer q rest ≡ read_text file next s q buffer rest
    on_from-none s buffer q rest e =
        ap (λ (after : After). front after ++ read_text file next after.state q after.buffer rest)
        (sym (answered-none file s q buffer e))

    -- one line: what `serve_line` gives, and then the rest of the read
    pub read-line : (l : List ℕ) (s : SessionState) (p : Splitter) (buffer : List ℕ) (b : ℕ)
        → let after = served_of file s p (b ∷ l) buffer in
        read_text file next s p buffer (b ∷ l)
        ≡ front after ++ read_text file next after.state (fed_line p (b ∷ l)) after.buffer (after_line p (b ∷ l))
    unfolding served_of
    read-line [] s p buffer b = go (fed p b).ended
      where
        go : (t : Bool) → on_from s buffer (fed p b) [] ≡ on_from s buffer (cond t (fed p b) (fed p b)) (cond t [] [])
        go true = refl
        go false = refl
    read-line (c ∷ l) s p buffer b = go (fed p b).ended refl (read-line l s (fed p b) buffer c)
      where
        go : (t : Bool) → (fed p b).ended ≡ t
            → read_text file next s (fed p b) buffer (c ∷ l) ≡ on_from s buffer (fed_line (fed p b) (c ∷ l)) (after_line (fed p b) (c ∷ l))
            → on_from s buffer (fed p b) (c ∷ l)
            ≡ on_from s buffer (cond t (fed p b) (fed_line (fed p b) (c ∷ l))) (cond t (c ∷ l) (after_line (fed p b) (c ∷ l)))
        go true e ih = refl
        go false e ih = on_from-none s buffer (fed p b) (c ∷ l) e ∙ ih

  -- ---- The lines that the splitter gives out

  -- they are printed one after the other, however the input is cut into reads
  abbrev Printed : List (List ℕ) → Type 0
  Printed reads = (s : SessionState) (p : Splitter) (buffer : List ℕ)
      → reads_text file s p buffer reads ≡ printed file s buffer (map command_held (given p (joined reads)))

  read-printed : (reads : List (List ℕ)) → Printed reads → (l : List ℕ) → Printed (l ∷ reads)
  unfolding answered
  read-printed reads next [] s p buffer = next s p buffer
  read-printed reads next (b ∷ l) s p buffer = go (fed p b).ended (λ t d. read-printed reads next l t (fed p b) d)
    where
      rest : List ℕ
      rest = l ++ joined reads

      go : (t : Bool)
          → ((r : SessionState) (d : List ℕ) → reads_text file r (fed p b) d (l ∷ reads) ≡ printed file r d (map command_held (given (fed p b) rest)))
          → let after = cond t (step_of file s (command_held (held_of (fed p b))) buffer) (nothing s buffer) in
          front after ++ reads_text file after.state (fed p b) after.buffer (l ∷ reads)
          ≡ printed file s buffer (map command_held (cond t (held_of (fed p b) ∷ given (fed p b) rest) (given (fed p b) rest)))
      go true ih =
          let after = step_of file s (command_held (held_of (fed p b))) buffer in
          ap (λ (u : List ℕ). front after ++ u) (ih after.state after.buffer)
      go false ih = ih s buffer

  pub reads-printed : (reads : List (List ℕ)) → Printed reads
  unfolding ended_of
  reads-printed [] s p buffer = go p.ended
    where
      go : (t : Bool)
          → front (cond t (nothing s buffer) (step_of file s (command_held (held_of p)) buffer))
          ≡ printed file s buffer (map command_held (cond t [] (held_of p ∷ [])))
      go true = refl
      go false = sym (append-nil _)
  reads-printed (l ∷ reads) s p buffer = read-printed reads (reads-printed reads) l s p buffer
