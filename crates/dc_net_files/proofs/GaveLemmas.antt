-- The files that a shelf gave, and then more files.
use Rattle.std.proofs.Common.{◌≡◌, ℕ, List, [], ◌∷◌, ◌++◌, ◌≤◌, Option, Ok, sym, ap, ◌∙◌, subst, arith}
use Rattle.std.specs.Prelude.{All}
use Rattle.std.proofs.lemmas.List.{map-append}
use Rattle.std.proofs.lemmas.List.Elements.{All-append, All-cons, All-nil}
use Rattle.dc_spec.specs.Outside.{Holding, ShelfState, Tells, grown}
use Rattle.dc_edge.specs.Shelf.{Reads}
use Rattle.dc_edge.proofs.PutLemmas.{grown-grown, grown-nothing}
use Rattle.dc_net_files.specs.Steps.{File, Reader, ◌>>=◌, names_of, bytes_of}
use Rattle.dc_net_files.specs.Reading.{Meets, Gave}
use Rattle.dc_net_files.proofs.NeededLemmas.{AreNeeded-append, AreNeeded-first}

asked-append : (told told' told'' : Option (List (List ℕ))) (front files : List File)
    → told' ≡ grown told (names_of front) → told'' ≡ grown told' (names_of files) → told'' ≡ grown told (names_of (front ++ files))
asked-append told told' told'' front files p q =
    q ∙ ap (λ (t : Option (List (List ℕ))). grown t (names_of files)) p ∙ grown-grown told (names_of front) (names_of files)
    ∙ ap (λ (ns : List (List ℕ)). grown told ns) (sym (map-append (λ (file : File). file.name) front files))

-- what the shelf reports of each file, where its files stayed
abbrev AreTold : (List ℕ → Holding) → List File → Type 0
AreTold holds files = All (λ file. Tells (holds file.name) file.bytes) files

-- the first files, and then more
pub Gave-append : {A : Type 0} (reader next : Reader A) (front files : List File) (s0 s1 s2 : ShelfState)
    → Gave reader front s0 s1 → ((more : List (List ℕ)) → reader (bytes_of front ++ more) ≡ next more) → Gave next files s1 s2
    → Gave reader (front ++ files) s0 s2
Gave-append reader next front files s0 s1 s2 p goes_on q = record {
  needed = AreNeeded-append reader next front files p.needed goes_on q.needed;
  kept = q.kept ∙ p.kept;
  asked = asked-append s0.asked s1.asked s2.asked front files p.asked q.asked;
  counted = omega (arith, p.counted, q.counted);
  bytes = All-append (λ (file : File). Tells (s0.holds file.name) file.bytes) front files p.bytes
      (subst (λ (holds : List ℕ → Holding). AreTold holds files) p.kept q.bytes);
}

-- the files of the first of two readers
pub Gave-first : {A B : Type 0} (reader : Reader A) (next : A → Reader B) (files : List File) (s0 s1 : ShelfState)
    → Gave reader files s0 s1 → Gave (λ given. reader given >>= next) files s0 s1
Gave-first reader next files s0 s1 p = record {
  needed = AreNeeded-first reader next files p.needed;
  kept = p.kept;
  asked = p.asked;
  counted = p.counted;
  bytes = p.bytes;
}

-- no file
pub Gave-none : {A : Type 0} (reader : Reader A) (s0 s1 : ShelfState) → s1.holds ≡ s0.holds → s1.asked ≡ s0.asked → s0.faults ≤ s1.faults
    → Gave reader [] s0 s1
Gave-none reader s0 s1 kept asked counted = record {
  needed = tt;
  kept = kept;
  asked = asked ∙ grown-nothing s0.asked;
  counted = counted;
  bytes = All-nil (λ (file : File). Tells (s0.holds file.name) file.bytes);
}

-- one file
pub Gave-one : {A : Type 0} (reader : Reader A) (name bytes : List ℕ) (limit : ℕ) (s0 s1 : ShelfState)
    → Meets (reader []) (record { name = name; bytes = bytes }) → Reads name limit s0 s1 (Ok bytes)
    → Gave reader (record { name = name; bytes = bytes } ∷ []) s0 s1
Gave-one reader name bytes limit s0 s1 m read = record {
  needed = (m, tt);
  kept = read.kept;
  asked = read.asked;
  counted = read.counted;
  bytes = All-cons (λ (file : File). Tells (s0.holds file.name) file.bytes) (record { name = name; bytes = bytes }) [] read.answer.1
      (All-nil (λ (file : File). Tells (s0.holds file.name) file.bytes));
}
