use Rattle.std.proofs.Common.{◌+◌, ◌*◌, ◌-◌, ◌/◌, ◌&&◌, leb, ap, sym, ◌∙◌, arith, rules, tests}
use Rattle.std.specs.List.{list_all, range_with_len}
use Rattle.std.proofs.lemmas.Iterator.{YieldsList-from_range}
use Rattle.std.proofs.lemmas.Iterator.Search.{all_from_yields_List}
use Rattle.limits.specs.Bounds.{max_size}
use Rattle.films.specs.Sizes.{size}
use Rattle.films.specs.Questions.{small_sizes}
use Rattle.films.proofs.FourLaws.{fours_small}
use Rattle.films.proofs.sizes.small.Goals as goal

pub returns-then-all : goal.returns-then-all
returns-then-all c =
    let s = c.args.file.now in
    let n = c.args.n in
    let rest = list_all (λ i. leb (size s (c.args.from + 4 * i)) max_size) (range_with_len (4 * (n / 4)) (n - 4 * (n / 4))) in
    let fours =
    all_from_yields_List (λ i. small_sizes s (c.args.from + 16 * i) 4) _ _ _ c.all.ensures.ran (YieldsList-from_range 0 (n / 4) (n / 4) (cc) (omega arith)) (λ i b q k. search (rules, tests)) in
    all_from_yields_List (λ i. leb (size s (c.args.from + 4 * i)) max_size) _ _ _ c.all-then-all.ensures.ran
    (YieldsList-from_range (4 * (n / 4)) n (n - 4 * (n / 4)) (cc) (omega arith))
    (λ i b q k. search (rules, tests))
    ∙ sym (ap (λ b. b && rest) (sym fours ∙ c.if-all.true))
    ∙ fours_small s c.args.from n (n / 4) (omega arith)

pub returns-else-all : goal.returns-else-all
returns-else-all c =
    let s = c.args.file.now in
    let n = c.args.n in
    let rest = list_all (λ i. leb (size s (c.args.from + 4 * i)) max_size) (range_with_len (4 * (n / 4)) (n - 4 * (n / 4))) in
    let fours =
    all_from_yields_List (λ i. small_sizes s (c.args.from + 16 * i) 4) _ _ _ c.all.ensures.ran (YieldsList-from_range 0 (n / 4) (n / 4) (cc) (omega arith)) (λ i b q k. search (rules, tests)) in
    c.if-all.false
    ∙ sym (ap (λ b. b && rest) (sym fours ∙ c.if-all.false))
    ∙ fours_small s c.args.from n (n / 4) (omega arith)
