-- A word to which terms are added.
use Rattle.std.specs.Prelude.{ℕ, ◌+◌, ◌%◌, ◌==◌, List, sum_by, slice_index, if◌then◌else◌}
use Rattle.dc_spec.specs.Words.{word_of}
use Rattle.dc_spec.specs.Scripts.{Term, term_value}

-- to each symbol the terms for that symbol are added
abbrev pub with_terms : List ℕ → List Term → List (List ℕ) → ℕ → List ℕ
with_terms constant terms words n = word_of (λ l.
    (slice_index constant l
    + sum_by (λ term. if term.to == l then term_value n words term else 0) terms) % 65537)
