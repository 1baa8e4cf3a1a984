-- Rounds put one after the other.
use Rattle.std.proofs.Common.{◌≡◌, ℕ, ◌+◌, ◌<◌, List, [], ◌∷◌, ◌++◌, length, take, get_or, sym, ◌∙◌, ap, arith}
use Rattle.std.specs.List.{flat_map, enumerate_from}
use Rattle.std.proofs.lemmas.List.{take_more, length-take, append_assoc, append-nil}
use Rattle.dc_spec.specs.Scripts.{Turn}
use Rattle.dc_formats.specs.ScriptFile.{turn_lines}

-- the lines of rounds that are numbered from a number on
abbrev pub lines_from : ℕ → List Turn → List ℕ
lines_from n turns = flat_map (λ t. turn_lines t.0 t.1) (enumerate_from n turns)

-- rounds in two parts
pub lines_from-append : (n : ℕ) (xs ys : List Turn) → lines_from n (xs ++ ys) ≡ lines_from n xs ++ lines_from (n + length xs) ys
lines_from-append n [] ys = ap (λ k. lines_from k ys) (let same : n ≡ n + 0 = omega arith in same)
lines_from-append n (x ∷ xs) ys =
    let rest = lines_from-append (n + 1) xs ys in
    let place : n + 1 + length xs ≡ n + length (x ∷ xs) = omega arith in
    ap (λ ls. turn_lines n x ++ ls) rest ∙ rw place (sym (append_assoc (turn_lines n x) (lines_from (n + 1) xs) _))

-- one more round
pub one_more : (rounds : List Turn) (i : ℕ) (d : Turn) → i < length rounds → lines_from 0 (take (i + 1) rounds) ≡ lines_from 0 (take i rounds) ++ turn_lines i (get_or rounds i d)
one_more rounds i d lt =
    let split = lines_from-append 0 (take i rounds) (get_or rounds i d ∷ []) in
    let place : 0 + length (take i rounds) ≡ i = omega (arith, length-take i rounds) in
    ap (lines_from 0) (take_more rounds i d lt) ∙ split ∙ rw place (ap (λ ls. lines_from 0 (take i rounds) ++ ls) (append-nil (turn_lines i (get_or rounds i d))))

-- one more round is put
pub next_put : (start before now : List ℕ) (rounds : List Turn) (i : ℕ) (round : Turn) → i < length rounds → before ≡ start ++ lines_from 0 (take i rounds)
    → round ≡ get_or rounds i round → now ≡ before ++ turn_lines i round → now ≡ start ++ lines_from 0 (take (i + 1) rounds)
next_put start before now rounds i round lt so_far is put =
    put
    ∙ ap (λ (ls : List ℕ). ls ++ turn_lines i round) so_far
    ∙ append_assoc start (lines_from 0 (take i rounds)) (turn_lines i round)
    ∙ ap (λ (t : Turn). start ++ (lines_from 0 (take i rounds) ++ turn_lines i t)) is
    ∙ ap (λ (ls : List ℕ). start ++ ls) (sym (one_more rounds i round lt))
