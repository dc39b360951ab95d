-- Lines in a string of fixed room. Assumes nothing.
use Rattle.std.specs.Prelude.{ℕ, ◌+◌, ◌^◌, ◌<◌, ◌≡◌, List, [], ◌∷◌, ◌++◌, length}
use Rattle.std.proofs.Common.{append_assoc, take, get_or}
use Rattle.std.proofs.lemmas.List.Sums.{fold_more}
use Rattle.std.specs.Fmt.{decimal as Fmt·decimal}
use Rattle.commands.specs.Bytes.{space}
use Rattle.text.specs.Text.{field, fields}
use Rattle.text.proofs.Digits.{decimal_printed}

-- one number more, as it is printed
pub fields_more : (first numbers : List ℕ) (i : ℕ) → i < length numbers → get_or numbers i 0 < 2 ^ 64
    → fields first (take (i + 1) numbers) ≡ (fields first (take i numbers) ++ space ∷ []) ++ Fmt·decimal (get_or numbers i 0)
fields_more first numbers i h f =
    rw (fold_more (λ text n. text ++ field n) first numbers i 0 h, decimal_printed (get_or numbers i 0) f, append_assoc)
