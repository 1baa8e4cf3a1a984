-- A read that is not to fail answers by the bytes under the name.
use Rattle.std.proofs.Common.{arith, ◌≡◌, ◌==◌, ℕ, Bool, true, false, if◌then◌else◌, nat_le, List, length, Option, Some, None, Result, Ok, Err}
use Rattle.std.proofs.lemmas.Grind.{common_steps}
use Rattle.std.specs.List.{list_any}
use Rattle.dc_edge.specs.declared.fault.ShelfFault.{ShelfFault}
use Rattle.dc_edge.specs.declared.fault.ShelfFault.TheVariants.{Missing, TooLong, Failed, NoMemory}
use Rattle.dc_edge.specs.ShelfBook.{ShelfBook, book_asked, held_bytes, answer_of, read_of, ReadsBook}
use Rattle.dc_edge.proofs.memory_shelf.MemoryShelfShelf.read.Goals as goal

-- a choice between bytes and a fault is not NoMemory
choice-is-answer : (b : Bool) (bytes : List ℕ) → Err NoMemory ≡ (if b then Ok bytes else Err TooLong) → ⊥
choice-is-answer true bytes e = cc
choice-is-answer false bytes e = cc

-- no answer by the bytes under a name is NoMemory
answer-is-no-want : (o : Option (List ℕ)) (limit : ℕ) → Err NoMemory ≡ answer_of o limit → ⊥
answer-is-no-want None limit e = cc
answer-is-no-want (Some bytes) limit e = choice-is-answer (nat_le (length bytes) limit) bytes e

-- the new book beside the answer that is due is the read's
read_of-due : (book : ShelfBook) (name : List ℕ) (limit : ℕ) (now : ShelfBook) (answer : Result (List ℕ) ShelfFault) → answer ≡ answer_of (held_bytes book.files name) limit
    → list_any (λ n. n == book.calls) book.fails ≡ false → now ≡ book_asked book name → (now, answer) ≡ read_of book name limit
read_of-due book name limit now answer due lives after = rw (lives, due, after)

ReadsBook-due : (book : ShelfBook) (name : List ℕ) (limit : ℕ) (now : ShelfBook) (answer : Result (List ℕ) ShelfFault) → answer ≡ answer_of (held_bytes book.files name) limit
    → list_any (λ n. n == book.calls) book.fails ≡ false → now ≡ book_asked book name → ReadsBook name limit book now answer
ReadsBook-due book name limit now (Ok bytes) due lives after = read_of-due book name limit now _ due lives after
ReadsBook-due book name limit now (Err Missing) due lives after = read_of-due book name limit now _ due lives after
ReadsBook-due book name limit now (Err TooLong) due lives after = read_of-due book name limit now _ due lives after
ReadsBook-due book name limit now (Err Failed) due lives after = read_of-due book name limit now _ due lives after
ReadsBook-due book name limit now (Err NoMemory) due lives after = absurd (answer-is-no-want _ limit due)

pub returns-clause-exact : goal.returns-clause-exact
returns-clause-exact c =
    let now : ShelfBook = record { files = c.self.inside.held.items; asked = c.push.new.self.items; fails = c.self.inside.failing.items; calls = c.saturating_add-self-inside.result; faults = c.self.inside.fault_count } in
    ReadsBook-due c.args.self.now c.args.name.now c.args.limit now c.in_ok-answer.answer (grind (arith, common_steps)) (grind (arith, common_steps)) (grind (arith, common_steps))
