-- What is read of a script is spelled so.
use Rattle.std.proofs.Common.{◌≡◌, ℕ, ◌+◌, ◌≤◌, Bool, true, false, cond, List, [], ◌∷◌, ◌++◌, length, map, Option, Some, None, Result, Ok, Err, IfOk, refl, sym, ◌∙◌, ap, subst, inl, arith, codes}
use Rattle.std.specs.Prelude.{bytes_eq}
use Rattle.std.specs.Fmt.{digits, decimal}
use Rattle.std.proofs.lemmas.Slice.Eq.{bytes_eq-Decides}
use Rattle.dc_spec.specs.Text.{line}
use Rattle.dc_spec.specs.Scripts.{Turn, Script}
use Rattle.dc_formats.specs.TextFile.{text_file, Line, ended, file_lines}
use Rattle.dc_formats.specs.ScriptFile.{IsScript, script_text}
use Rattle.dc_formats.proofs.FileLines.{text_file_of_lines}
use Rattle.dc_field.specs.Answers.{Answers}
use Rattle.dc_field.specs.declared.refusal.Refusal.{Refusal}
use Rattle.dc_text.specs.Lines.{text_in, reported_line, with_lines}
use Rattle.dc_text.proofs.LineByLine.{went_on, ended_text, texts_of_lines, texts_spelled, texts_keep}
use Rattle.dc_script.specs.declared.fault.ScriptFault.{ScriptFault}
use Rattle.dc_script.specs.declared.fault.ScriptKind.{ScriptKind}
use Rattle.dc_script.specs.declared.fault.ScriptKind.TheVariants.{NotText, Header, Missing}
use Rattle.dc_script.specs.declared.item.Item.{Item}
use Rattle.dc_script.specs.Items.{item_in}
use Rattle.dc_script.specs.Turns.{is_waiting, with_item, terms_after}
use Rattle.dc_script.specs.Progress.{Progress, no_progress}
use Rattle.dc_script.specs.Reading.{script_fault, headed, script_in}
use Rattle.dc_script.specs.TurnReading.{progressed, with_item_in, with_text, progress_in, closed, after_head, script_by_turns}
use Rattle.dc_script.proofs.Putting.{lines_from}
use Rattle.dc_script.proofs.ItemTexts.{item_found, IsSpelled}
use Rattle.dc_script.proofs.Growing.{item_lines}
use Rattle.dc_script.proofs.TurnsSoFar.{SoFar, Counted, script_done, item_so_far, item_counts}

-- ---- one line

progressed_ok : (k : ℕ) (r : Result (List Turn) ScriptKind) (new : Progress) → progressed k r ≡ Ok new → (turns : List Turn) × (r ≡ Ok turns) × (record { turns = turns; terms = k } ≡ new)
progressed_ok k (Err kind) new e = absurd cc
progressed_ok k (Ok turns) new e = (turns, refl, cc)

-- what a line that is read tells
pub record ReadLine (version : ℕ) (so_far : Progress) (text : List ℕ) (new : Progress) : Type 0 where
  pub item : Item
  pub spelled : IsSpelled version text item
  pub turns : List Turn
  pub made : with_item so_far.terms so_far.turns item ≡ Ok turns
  pub is : record { turns = turns; terms = terms_after so_far.terms item } ≡ new

of_item : (version : ℕ) (so_far : Progress) (text : List ℕ) (o : Option Item) (new : Progress) → item_in version text ≡ o → with_item_in so_far o ≡ Ok new → ReadLine version so_far text new
of_item version so_far text None new is e = absurd cc
of_item version so_far text (Some item) new is e =
    let made = progressed_ok (terms_after so_far.terms item) (with_item so_far.terms so_far.turns item) new e in
    record { item = item; spelled = item_found version text item is; turns = made.0; made = made.1; is = made.2 }

pub read_line : (version : ℕ) (so_far new : Progress) (text : List ℕ) → with_text version so_far text ≡ Ok new → ReadLine version so_far text new
read_line version so_far new text e = of_item version so_far text (item_in version text) new refl e

-- the lines of a progress
abbrev pub progress_lines : Progress → List ℕ
progress_lines so_far = lines_from 0 so_far.turns

pub text_lines : (version : ℕ) (so_far new : Progress) (text : List ℕ) → with_text version so_far text ≡ Ok new → progress_lines new ≡ progress_lines so_far ++ line text
text_lines version so_far new text e =
    let read = read_line version so_far new text e in
    ap progress_lines (sym read.is) ∙ item_lines so_far.terms so_far.turns read.item read.turns read.made ∙ ap (λ (t : List ℕ). progress_lines so_far ++ line t) (sym read.spelled.0)

-- what a progress is
pub record IsProgress (version : ℕ) (so_far : Progress) : Type 0 where
  pub so : SoFar so_far.turns
  pub counted : Counted version so_far.turns so_far.terms

pub text_so_far : (version : ℕ) (so_far new : Progress) (text : List ℕ) → IsProgress version so_far → with_text version so_far text ≡ Ok new → IsProgress version new
text_so_far version so_far new text is e =
    let read = read_line version so_far new text e in
    subst (IsProgress version) read.is (record {
      so = item_so_far version so_far.terms so_far.turns read.item read.turns is.so read.spelled.1 read.made;
      counted = item_counts version so_far.terms so_far.turns read.item read.turns is.counted read.spelled.1 read.made;
    })

pub none_is : (version : ℕ) → IsProgress version no_progress
none_is version = record { so = inl refl; counted = record { count = refl; most = omega arith; first = λ _. refl } }

-- ---- all lines

-- what the lines after the first make
pub record IsBody (lines : List Line) (s : Script) : Type 0 where
  pub texts : List (List ℕ)
  pub are_ended : lines ≡ map ended texts
  pub is_script : IsScript s
  pub spelled : lines_from 0 s.rounds ≡ text_file texts

-- a choice that gave an answer
not_refused : {X F : Type 0} (b : Bool) (f : F) (x y : X) → cond b (Err f) (Ok x) ≡ Ok y → (b ≡ false) × (x ≡ y)
not_refused true f x y e = absurd cc
not_refused false f x y e = (refl, cc)

pub body_found : (version : ℕ) → 1 ≤ version → version ≤ 2 → (lines : List Line) (s : Script) → after_head version lines ≡ Ok s → (version ≡ s.version) × IsBody lines s
body_found version some most lines s e =
    let read = went_on (λ (f : ScriptFault). f) (closed version) (progress_in version lines) s e in
    let so_far : Progress = read.0.0 in
    let end = not_refused (is_waiting read.0.0.turns) (script_fault read.0.1 Missing) (record { version = version; rounds = read.0.0.turns }) s read.2 in
    let made = went_on (λ (f : ScriptFault). f) (λ (p : Progress). Ok (p, reported_line (2 + length lines))) (with_lines script_fault NotText (with_text version) 2 no_progress lines) read.0 read.1 in
    let pair : (made.0, reported_line (2 + length lines)) ≡ read.0 = let h : Ok (made.0, reported_line (2 + length lines)) ≡ Ok read.0 = made.2 in cc in
    let same : made.0 ≡ so_far = ap (λ (p : Progress × ℕ). p.0) pair in
    let rest = texts_of_lines script_fault NotText (with_text version) 2 no_progress so_far lines (made.1 ∙ ap Ok same) in
    let is : IsProgress version so_far = texts_keep (with_text version) (IsProgress version) (λ c n t. text_so_far version c n t) no_progress so_far rest.texts (none_is version) rest.made in (
      ap (λ (script : Script). script.version) end.1,
      record {
        texts = rest.texts;
        are_ended = rest.are_ended;
        is_script = subst IsScript end.1 (script_done version so_far.turns so_far.terms some most is.so is.counted end.0);
        spelled = ◌∙◌ {c = text_file rest.texts} (ap (λ (script : Script). lines_from 0 script.rounds) (sym end.1))
            (texts_spelled (with_text version) progress_lines (text_lines version) no_progress so_far rest.texts rest.made);
      },
    )

-- the head line of a version
pub first_head : codes "dcscript 1" ≡ codes "dcscript " ++ decimal 1
unfolding digits
first_head = refl

pub second_head : codes "dcscript 2" ≡ codes "dcscript " ++ decimal 2
unfolding digits
second_head = refl

-- the head line stands first
pub record IsHeaded (text : List ℕ) (lines : List Line) (s : Script) : Type 0 where
  pub head : text ≡ codes "dcscript " ++ decimal s.version
  pub body : IsBody lines s

version_found : (version : ℕ) → 1 ≤ version → version ≤ 2 → (lines : List Line) (text : List ℕ) (s : Script) → text ≡ codes "dcscript " ++ decimal version → after_head version lines ≡ Ok s
    → IsHeaded text lines s
version_found version some most lines text s is e =
    let found = body_found version some most lines s e in
    record { head = is ∙ ap (λ (n : ℕ). codes "dcscript " ++ decimal n) found.0; body = found.1 }

second_found : (lines : List Line) (text : List ℕ) (s : Script) (b : Bool) → bytes_eq text (codes "dcscript 2") ≡ b → cond b (after_head 2 lines) (Err (script_fault 1 Header)) ≡ Ok s
    → IsHeaded text lines s
second_found lines text s true is e = version_found 2 (omega arith) (omega arith) lines text s ((bytes_eq-Decides text (codes "dcscript 2")).0 is ∙ second_head) e
second_found lines text s false is e = absurd cc

head_found : (lines : List Line) (text : List ℕ) (s : Script) (b : Bool) → bytes_eq text (codes "dcscript 1") ≡ b
    → cond b (after_head 1 lines) (cond (bytes_eq text (codes "dcscript 2")) (after_head 2 lines) (Err (script_fault 1 Header))) ≡ Ok s → IsHeaded text lines s
head_found lines text s true is e = version_found 1 (omega arith) (omega arith) lines text s ((bytes_eq-Decides text (codes "dcscript 1")).0 is ∙ first_head) e
head_found lines text s false is e = second_found lines text s (bytes_eq text (codes "dcscript 2")) refl e

pub record IsFirst (first : Line) (lines : List Line) (s : Script) : Type 0 where
  pub head : first ≡ ended (codes "dcscript " ++ decimal s.version)
  pub body : IsBody lines s

first_found : (first : Line) (lines : List Line) (o : Option (List ℕ)) (s : Script) → text_in first ≡ o → headed after_head o lines ≡ Ok s → IsFirst first lines s
first_found first lines None s is e = absurd cc
first_found first lines (Some text) s is e =
    let found = head_found lines text s (bytes_eq text (codes "dcscript 1")) refl e in
    record { head = (ended_text first text is).0 ∙ ap ended found.head; body = found.body }

in_lines_found : (bytes : List ℕ) (lines : List Line) (s : Script) → file_lines bytes ≡ lines → script_in after_head lines ≡ Ok s → IsScript s × (bytes ≡ script_text s)
in_lines_found bytes [] s is e = absurd cc
in_lines_found bytes (first ∷ lines) s is e =
    let found = first_found first lines (text_in first) s refl e in
    let head : List ℕ = codes "dcscript " ++ decimal s.version in
    let whole : file_lines bytes ≡ map ended ((codes "dcscript " ++ decimal s.version) ∷ found.body.texts) = is ∙ cc (found.head, found.body.are_ended) in
    (found.body.is_script, text_file_of_lines bytes (head ∷ found.body.texts) whole ∙ ap (λ (ls : List ℕ). line head ++ ls) (sym found.body.spelled))

-- bytes that are read are the script's spelling
pub script_found : (bytes : List ℕ) (s : Script) → script_by_turns bytes ≡ Ok s → IsScript s × (bytes ≡ script_text s)
unfolding script_by_turns
script_found bytes s e = in_lines_found bytes (file_lines bytes) s refl e

-- turns that do not wait after all lines are a script
pub lines_are_script : (version : ℕ) → 1 ≤ version → version ≤ 2 → (lines : List Line) (so_far : Progress) (number : ℕ) → progress_in version lines ≡ Ok (so_far, number)
    → is_waiting so_far.turns ≡ false
    → IsScript (record { version = version; rounds = so_far.turns })
lines_are_script version some most lines so_far number e done = (body_found version some most lines (record { version = version; rounds = so_far.turns }) (rw (e, done) refl)).1.is_script

-- what is read is spelled so
pub answer_found : (bytes : List ℕ) (r : Result Script (Refusal ScriptFault)) → Answers r (script_by_turns bytes) → IfOk r (λ s. IsScript s × (bytes ≡ script_text s))
answer_found bytes (Ok s) h = script_found bytes s h
answer_found bytes (Err r) h = tt
