-- Scripts that are read and refused, by computation.
use Rattle.std.proofs.Common.{◌≡◌, ℕ, List, [], ◌∷◌, ◌++◌, Ok, Err, refl}
use Rattle.std.specs.Prelude.{codes, replicate}
use Rattle.std.specs.Fmt.{digits}
use Rattle.dc_spec.specs.Words.{word_of, zero_word}
use Rattle.dc_spec.specs.Scripts.{Said, all_sum, each}
use Rattle.dc_script.specs.declared.fault.ScriptKind.TheVariants.{NotText, Header, Form, Round, Misplaced, Order, Missing, Late, Unordered}
use Rattle.dc_script.specs.Reading.{script_fault, script_from_bytes}

-- a line of this text
abbrev ends : List ℕ → List ℕ
ends text = text ++ 10 ∷ []

-- a line that begins so and ends in a word of zeros but for its last digit
abbrev ends_in : List ℕ → List ℕ → List ℕ
ends_in beginning last = beginning ++ replicate 79 48 ++ last ++ 10 ∷ []

-- a word without terms
abbrev plain : ℕ → List ℕ → Said
plain i w = record { station = i; word = w; terms = [] }

-- the first line alone
no_rounds : script_from_bytes (ends (codes "dcscript 1")) ≡ Ok (record { version = 1; rounds = [] })
unfolding script_from_bytes
no_rounds = refl

-- three stations, one edge, station 2 in the coalition: it deals two words, then lets the sum through
worked : script_from_bytes (ends (codes "dcscript 1") ++ ends (codes "round 0") ++ ends_in (codes "say 2 ") (codes "0") ++ ends_in (codes "to 0 ") (codes "2") ++ ends_in (codes "to 1 ")
    (codes "3") ++ ends (codes "round 1") ++ ends_in (codes "say 2 ") (codes "0") ++ ends (codes "all"))
    ≡ Ok (record {
      version = 1;
      rounds = record { says = plain 2 zero_word ∷ []; delivery = each (plain 0 (replicate 15 0 ++ 2 ∷ []) ∷ plain 1 (replicate 15 0 ++ 3 ∷ []) ∷ []) } ∷ record {
        says =
            plain 2 zero_word ∷ [];
        delivery = all_sum;
      } ∷ [];
    })
unfolding script_from_bytes word_of digits
worked = refl

-- each fault once
no_lines : script_from_bytes [] ≡ Err (script_fault 1 Header)
unfolding script_from_bytes
no_lines = refl

other_version : script_from_bytes (ends (codes "dcscript 3")) ≡ Err (script_fault 1 Header)
unfolding script_from_bytes
other_version = refl

no_end : script_from_bytes (ends (codes "dcscript 1") ++ ends (codes "round 0") ++ codes "all") ≡ Err (script_fault 3 NotText)
unfolding script_from_bytes digits
no_end = refl

leading_zero : script_from_bytes (ends (codes "dcscript 1") ++ ends (codes "round 00")) ≡ Err (script_fault 2 Form)
unfolding script_from_bytes digits
leading_zero = refl

round_lacks : script_from_bytes (ends (codes "dcscript 1") ++ ends (codes "round 0") ++ ends (codes "round 7")) ≡ Err (script_fault 3 Missing)
unfolding script_from_bytes digits
round_lacks = refl

last_lacks : script_from_bytes (ends (codes "dcscript 1") ++ ends (codes "round 0") ++ ends_in (codes "say 1 ") (codes "0")) ≡ Err (script_fault 4 Missing)
unfolding script_from_bytes word_of digits
last_lacks = refl

other_round : script_from_bytes (ends (codes "dcscript 1") ++ ends (codes "round 0") ++ ends (codes "all") ++ ends (codes "round 7")) ≡ Err (script_fault 4 (Round 7 1))
unfolding script_from_bytes digits
other_round = refl

said_late : script_from_bytes (ends (codes "dcscript 1") ++ ends (codes "round 0") ++ ends (codes "all") ++ ends_in (codes "say 1 ") (codes "0")) ≡ Err (script_fault 4 Misplaced)
unfolding script_from_bytes word_of digits
said_late = refl

falls : script_from_bytes (ends (codes "dcscript 1") ++ ends (codes "round 0") ++ ends_in (codes "to 5 ") (codes "0") ++ ends_in (codes "to 4 ") (codes "0")) ≡ Err (script_fault 4 (Order 4))
unfolding script_from_bytes word_of digits
falls = refl

-- ---- version 2

-- the beginning of a file: a round in which station 2 says the zero word
abbrev one_word : List ℕ → List ℕ
one_word head = ends head ++ ends (codes "round 0") ++ ends_in (codes "say 2 ") (codes "0")

-- a word that takes back what station 0 said in the same round: 65536 times its last symbol
worked_rule : script_from_bytes (one_word (codes "dcscript 2") ++ ends (codes "add 15 10000 0 0 15") ++ ends (codes "all"))
    ≡ Ok (record {
      version = 2;
      rounds = record { says = record { station = 2; word = zero_word; terms = record { to = 15; factor = 65536; station = 0; round = 0; symbol = 15 } ∷ [] } ∷ []; delivery = all_sum } ∷ [];
    })
unfolding script_from_bytes word_of digits
worked_rule = refl

-- and each fault of a term once
first_version_lacks_terms : script_from_bytes (one_word (codes "dcscript 1") ++ ends (codes "add 15 10000 0 0 15")) ≡ Err (script_fault 4 Form)
unfolding script_from_bytes word_of digits
first_version_lacks_terms = refl

zero_factor : script_from_bytes (one_word (codes "dcscript 2") ++ ends (codes "add 15 00000 0 0 15")) ≡ Err (script_fault 4 Form)
unfolding script_from_bytes word_of digits
zero_factor = refl

symbol_16 : script_from_bytes (one_word (codes "dcscript 2") ++ ends (codes "add 16 00001 0 0 15")) ≡ Err (script_fault 4 Form)
unfolding script_from_bytes word_of digits
symbol_16 = refl

term_of_no_word : script_from_bytes (ends (codes "dcscript 2") ++ ends (codes "round 0") ++ ends (codes "all") ++ ends (codes "add 15 10000 0 0 15")) ≡ Err (script_fault 4 Misplaced)
unfolding script_from_bytes digits
term_of_no_word = refl

later_round : script_from_bytes (one_word (codes "dcscript 2") ++ ends (codes "add 15 10000 0 1 15")) ≡ Err (script_fault 4 (Late 1 0))
unfolding script_from_bytes word_of digits
later_round = refl

place_repeated : script_from_bytes (one_word (codes "dcscript 2") ++ ends (codes "add 15 10000 0 0 15") ++ ends (codes "add 15 00001 0 0 15")) ≡ Err (script_fault 5 Unordered)
unfolding script_from_bytes word_of digits
place_repeated = refl
