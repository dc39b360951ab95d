-- `search::query::Query::next_to_try` meets its contract: each test rules out what its law says, and where all four pass the
-- start fits. Assumes nothing.
use Rattle.std.proofs.Common.{rules, arith, ◌≡◌, ◌+◌, max, sym, ◌∙◌}
use Rattle.search.specs.Seen.{seen}
use Rattle.search.proofs.StepLaws.{skip-memory, skip-disk, clear-all, skip-cabs, fits-now}
use Rattle.search.proofs.query.Query.next_to_try.Goals as goal

pub returns-in-Some : goal.returns-in-Some
returns-in-Some c =
    let over = c.in-Some.ensures in
    skip-memory (seen c.args.self.now) c.args.c.start c.in-Some.near c.args.c.clear over.1 over.0 c.requires.known

pub returns-in-Some-last_over_disk : goal.returns-in-Some-last_over_disk
returns-in-Some-last_over_disk c =
    let over = c.in-Some-last_over_disk.ensures in
    let s = c.args.c.start in
    let m : c.max.result ≡ max s c.args.c.clear = search rules in
    skip-disk (seen c.args.self.now) s c.max.result c.in-Some-last_over_disk.t (s + c.length.result) (omega arith) over.0 over.1 over.2 over.3
    (omega arith)

pub returns-in-Some-after_clash : goal.returns-in-Some-after_clash
returns-in-Some-after_clash c =
    let q = seen c.args.self.now in
    let s = c.args.c.start in
    let e = s + c.length.result in
    let free = clear-all q s c.args.c.clear c.max.result e c.requires.known (search rules) c.in_default-last_over_disk.ensures (omega arith) in
    skip-cabs q s c.in-Some-after_clash.next e free (sym c.after_clash.ensures ∙ c.in-Some-after_clash.is)

pub returns-in-Some-first_over_memory : goal.returns-in-Some-first_over_memory
returns-in-Some-first_over_memory c =
    let q = seen c.args.self.now in
    let s = c.args.c.start in
    let e = s + c.length.result in
    let over = c.in-Some-first_over_memory.ensures in
    let free = clear-all q s c.args.c.clear c.max.result e c.requires.known (search rules) c.in_default-last_over_disk.ensures (omega arith) in
    skip-memory q s c.in-Some-first_over_memory.near e over.2 over.1 free

pub returns : goal.returns
returns c =
    let q = seen c.args.self.now in
    let s = c.args.c.start in
    let e = s + c.length.result in
    let free = clear-all q s c.args.c.clear c.max.result e c.requires.known (search rules) c.in_default-last_over_disk.ensures (omega arith) in
    fits-now q s e free (omega arith) (sym c.after_clash.ensures ∙ c.in_default-after_clash.is)
    (λ j h. c.in_default-first_over_memory.ensures j (omega arith) h)
