-- A run of the program: what is printed by writing the bytes that each of its functions leaves for it at the front of the buffer.
use Rattle.std.specs.Prelude.{cond, List, [], ◌∷◌, ◌++◌, ℕ, take}
use Rattle.lines.specs.Lines.{started, fed}
use Rattle.lines.specs.declared.Splitter.{Splitter}
use Rattle.console.specs.Session.{SessionState, at_start}
use Rattle.console.specs.Contract.{After}
use Rattle.program.specs.Contract.{begin_of, answered, ended_of}

-- the bytes that are printed
abbrev pub front : After → List ℕ
front after = take after.count after.buffer

-- the bytes of a read, one after the other: each line that one ends is answered. `next` is what is printed from there on. A call of
-- `serve_line` takes all bytes up to the end of a line at once (RunLaws.antt, `read-line`).
abbrev pub read_text : List ℕ → (SessionState → Splitter → List ℕ → List ℕ) → SessionState → Splitter → List ℕ → List ℕ → List ℕ
read_text file next s p buffer [] = next s p buffer
read_text file next s p buffer (b ∷ l) =
    let after = answered file s (fed p b) buffer in
    front after ++ read_text file next after.state (fed p b) after.buffer l

-- the reads of an input, whatever each of them gives, and its end
abbrev pub reads_text : List ℕ → SessionState → Splitter → List ℕ → List (List ℕ) → List ℕ
reads_text file s p buffer [] = front (ended_of file s p buffer)
reads_text file s p buffer (l ∷ reads) = read_text file (λ t q d. reads_text file t q d reads) s p buffer l

-- the input that reads are
abbrev pub joined : List (List ℕ) → List ℕ
joined [] = []
joined (l ∷ reads) = l ++ joined reads

-- the film file first; with one that is refused the input is not read
abbrev pub run_text : List ℕ → List ℕ → List (List ℕ) → List ℕ
run_text file buffer reads =
    let begun = begin_of file buffer in
    take begun.count begun.buffer ++ cond begun.accepted (reads_text file at_start started begun.buffer reads) []
