-- Numerals and lines: a decimal numeral has at most 20 digits, no leading zero, and is read back as its number; an output line
-- has at most 84 bytes, and a report of up to 64 lines with its answer fits 8,192. Assumes nothing.
use Rattle.std.specs.Prelude.{ℕ, zero, suc, ◌+◌, ◌*◌, ◌/◌, ◌%◌, ◌^◌, ◌<◌, ◌≤◌, ◌≡◌, refl, Bool, true, false, cond, List, [], ◌∷◌, ◌++◌, ltb, length, get_or}
use Rattle.std.proofs.Common.{sym, ◌∙◌, arith, length-append, lt-ltb, le-ltb, le-leb, ap, pow-suc}
use Rattle.std.specs.Fmt.{decimal as Fmt·decimal}
use Rattle.std.proofs.lemmas.Fmt.{AppendsLastDigit, decimal_from_appends, decimal_by_steps, length-decimal-le}
use Rattle.std.proofs.Math.ListN.{get_or-append}
use Rattle.limits.specs.Bounds.{max_digits, hall_places}
use Rattle.laws.specs.Tests.{join, all_append}
use Rattle.model.specs.declared.Line.{Line}
use Rattle.model.specs.declared.Answer.{Answer}
use Rattle.model.specs.declared.Answer.TheVariants.{Refused, Opened, Booked, Dropped, Played}
use Rattle.commands.specs.Bytes.{digit_zero}
use Rattle.commands.specs.Grammar.{is_digit, is_numeral, value}
use Rattle.commands.specs.Values.{value-append}
use Rattle.text.specs.Text.{spell, decimal, field, end, no_word, booked_word, dropped_word, round_word, answer_fields, answer_text, line_text, report_text}
use Rattle.text.specs.Write.{max_text}
use Rattle.text.specs.Digits.{Spelt, output_bytes}
use Rattle.std.proofs.Math.Decide.{dec_lt}

-- ---- Digits

spell-digit : (k n : ℕ) → n < 10 → spell (suc k) n ≡ (digit_zero + n) ∷ []
unfolding spell
spell-digit k n h = rw (lt-ltb n 10 h)

spell-more : (k n : ℕ) → 10 ≤ n → spell (suc k) n ≡ spell k (n / 10) ++ (digit_zero + n % 10) ∷ []
unfolding spell
spell-more k n h = rw (le-ltb n 10 h)

spell-length : (k n : ℕ) → length (spell k n) ≤ k
unfolding spell
spell-length zero n = omega arith
spell-length (suc k) n = go (ltb n 10) (spell-length k (n / 10))
  where
    go : (t : Bool) → length (spell k (n / 10)) ≤ k → length (cond t ((digit_zero + n) ∷ []) (spell k (n / 10) ++ (digit_zero + n % 10) ∷ [])) ≤ suc k
    go true h = omega arith
    go false h = omega (arith, length-append (spell k (n / 10)) ((digit_zero + n % 10) ∷ []))

pub decimal-length : (n : ℕ) → length (decimal n) ≤ max_digits
decimal-length n = spell-length max_digits n

spells : AppendsLastDigit spell
spells = record { one = spell-digit; more = spell-more }

-- the numeral that is printed
pub decimal_printed : (n : ℕ) → n < 2 ^ 64 → Fmt·decimal n ≡ decimal n
decimal_printed n h = sym (decimal_from_appends spell spells max_digits n h (length-decimal-le 20 n (omega arith) (omega arith) h))

digit-spelt : (d : ℕ) → d < 10 → Spelt d ((digit_zero + d) ∷ [])
digit-spelt d h =
    record {
      some-digit = omega arith;
      digits = join (join (le-leb 48 (48 + d) (omega arith)) (le-leb (48 + d) 57 (omega arith))) refl;
      number = omega arith;
      no_zero = omega arith;
    }

more-spelt : (n : ℕ) (w : List ℕ) → 10 ≤ n → Spelt (n / 10) w → Spelt n (w ++ (digit_zero + n % 10) ∷ [])
more-spelt n w h s =
    let d = digit_zero + n % 10 in
    record {
      some-digit = omega (arith, length-append w (d ∷ []), s.some-digit);
      digits = all_append is_digit w (d ∷ []) s.digits (digit-spelt (n % 10) (omega arith)).digits;
      number = value-append 0 w (d ∷ []) ∙ omega (arith, s.number);
      no_zero = λ p. rw (get_or-append w (d ∷ []) 0 0 s.some-digit) (s.no_zero (omega arith));
    }

decimal-spelt : (n : ℕ) → n < 2 ^ 64 → Spelt n (decimal n)
decimal-spelt n h = rw (sym (decimal_printed n h)) (decimal_by_steps Spelt digit-spelt more-spelt n h)

pub decimal-value : (n : ℕ) → n < 2 ^ 64 → value (decimal n) ≡ n
decimal-value n h = (decimal-spelt n h).number

pub decimal-numeral : (n : ℕ) → n < 2 ^ 64 → is_numeral (decimal n) ≡ true
decimal-numeral n h =
    let s = decimal-spelt n h in
    join
    (join (join (lt-ltb 0 (length (decimal n)) s.some-digit) (le-leb (length (decimal n)) max_digits (decimal-length n))) s.digits)
    (lt-ltb (value (decimal n)) (2 ^ 64) (omega (arith, s.number)))

pub no-leading-zero : (n : ℕ) → 0 < n → n < 2 ^ 64 → digit_zero < get_or (decimal n) 0 0
no-leading-zero n p h = (decimal-spelt n h).no_zero p

-- ---- Lengths

pub field-length : (n : ℕ) → length (field n) ≤ 1 + max_digits
field-length n = omega (arith, decimal-length n)

-- an answer's line but for its end
pub answer-fields : (name round : ℕ) (a : Answer) → length (answer_fields name round a) < max_text
unfolding answer_fields
answer-fields name round (Refused n) = omega (arith, length-append no_word (field n), field-length n)
answer-fields name round Opened = omega arith
answer-fields name round (Booked s) =
    omega (
      arith,
      length-append (booked_word ++ field name) (field s),
      length-append booked_word (field name),
      field-length name,
      field-length s,
    )
answer-fields name round Dropped = omega (arith, length-append dropped_word (field name), field-length name)
answer-fields name round (Played films cabs) =
    omega (
      arith,
      length-append (round_word ++ field round ++ field films) (field cabs),
      length-append (round_word ++ field round) (field films),
      length-append round_word (field round),
      field-length round,
      field-length films,
      field-length cabs,
    )

pub line-fields : (l : Line) → length (decimal l.name ++ field l.read ++ field l.send ++ field l.held) < max_text
line-fields l =
    omega (
      arith,
      length-append (decimal l.name ++ field l.read ++ field l.send) (field l.held),
      length-append (decimal l.name ++ field l.read) (field l.send),
      length-append (decimal l.name) (field l.read),
      decimal-length l.name,
      field-length l.read,
      field-length l.send,
      field-length l.held,
    )

pub answer-length : (name round : ℕ) (a : Answer) → length (answer_text name round a) ≤ max_text
answer-length name round a = omega (arith, length-append (answer_fields name round a) end, answer-fields name round a)

pub line-length : (l : Line) → length (line_text l) ≤ max_text
line-length l =
    omega (arith, length-append (decimal l.name ++ field l.read ++ field l.send ++ field l.held) end, line-fields l)

pub report-length : (ls : List Line) → length (report_text ls) ≤ max_text * length ls
report-length [] = omega arith
report-length (l ∷ ls) = omega (arith, length-append (line_text l) (report_text ls), line-length l, report-length ls)

-- an answer and a report of as many lines as the program's list has places fit the buffer, with room for a line after each of them
pub report-fits : (name round : ℕ) (a : Answer) (ls : List Line) → length ls ≤ hall_places
    → length (answer_text name round a ++ report_text ls) + max_text ≤ output_bytes
report-fits name round a ls h =
    omega (arith, length-append (answer_text name round a) (report_text ls), answer-length name round a, report-length ls)

-- room for one digit more than there are changes nothing
spell_enough : (k n : ℕ) → n < 10 ^ suc k → spell (suc (suc k)) n ≡ spell (suc k) n
spell_enough zero n h = spell-digit 1 n h ∙ sym (spell-digit 0 n h)
spell_enough (suc k) n h = go (dec_lt n 10) (λ e. spell_enough k (n / 10) e)
  where
    go : Dec (n < 10) → (n / 10 < 10 ^ suc k → spell (suc (suc k)) (n / 10) ≡ spell (suc k) (n / 10))
        → spell (suc (suc (suc k))) n ≡ spell (suc (suc k)) n
    go (yes l) ih = spell-digit (suc (suc k)) n l ∙ sym (spell-digit (suc k) n l)
    go (no l) ih =
        let many : 10 ≤ n = omega arith in
        let tenth : n / 10 < 10 ^ suc k = omega (arith, pow-suc 10 (suc k)) in
        spell-more (suc (suc k)) n many ∙ rw (ih tenth) (sym (spell-more (suc k) n many))

tenth : (n : ℕ) → n < 2 ^ 64 → decimal (n / 10) ≡ spell 19 (n / 10)
tenth n f = spell_enough 18 (n / 10) (omega arith)

pub decimal_digit : (n : ℕ) → n < 10 → decimal n ≡ (digit_zero + n) ∷ []
decimal_digit n h = spell-digit 19 n h

pub decimal-more : (n : ℕ) → 10 ≤ n → n < 2 ^ 64 → decimal n ≡ decimal (n / 10) ++ (digit_zero + n % 10) ∷ []
decimal-more n h f = rw (tenth n f) (spell-more 19 n h)

-- the numeral of a tenth leaves room for a digit
pub tenth-length : (n : ℕ) → n < 2 ^ 64 → length (decimal (n / 10)) < max_digits
tenth-length n f = omega (arith, ap length (tenth n f), spell-length 19 (n / 10))
