-- Serving a session: peers greeted one by one, and how it ends.
use Rattle.std.proofs.Common.{◌≡◌, ◌≢◌, ℕ, ◌+◌, ◌<◌, ◌==◌, if◌then◌else◌, inl, inr, List, [], ◌∷◌, ◌++◌, length, Option, Some, None, Ok, Err, refl, sym, ap, subst, ◌∙◌, arith, append_assoc, eq-eqb}
use Rattle.std.proofs.lemmas.Bool.{ne_eqb, cases_lt}
use Rattle.std.proofs.lemmas.List.{length-append, replicate_more}
use Rattle.dc_spec.specs.Outside.{WireState, IsEmptyIfKnown, grown, preceded}
use Rattle.dc_edge.specs.Wire.{Accepts, Listens}
use Rattle.dc_live.specs.Seats.{SeatsState, AreNew}
use Rattle.dc_live.specs.Greeting.{Greets}
use Rattle.dc_live.specs.Serving.{asked_for, HasGreeted, GreetedSome, Fails}
use Rattle.dc_live.specs.Serving.Fails.{alone, ungreeted}
use Rattle.dc_live.specs.Serving.RunsOut.{later}
use Rattle.dc_field.specs.declared.refusal.Refusal.{Refusal}
use Rattle.dc_field.specs.declared.refusal.Refusal.TheVariants as refusals
use Rattle.dc_live.specs.ServingSteps.{GreetsPeer, NotNext, GreetsNext, GathersAll, Gathers}
use Rattle.dc_live.specs.ServingSteps.NotNext.{absent, unfit}
use Rattle.dc_live.specs.declared.fault.LiveFault.{LiveFault}
use Rattle.dc_live.proofs.TalkLemmas.{grown-nothing}
use Rattle.dc_live.proofs.TalkAllLemmas.{same_or_other}

-- so many peers were greeted
pub record GreetedSoFar (addr : List ℕ) (s new : SeatsState) (count : ℕ) (before after : WireState) : Type 0 where
  pub gave : ℕ → List ℕ
  pub greeted : HasGreeted addr s.stations s.words new gave before after
  pub counted : length new.told ≡ count

no_peer : (told : List ℕ) → told ≡ [] → length told ≡ 0
no_peer told free = ap (λ (xs : List ℕ). length xs) free

-- none, right after the hub began to listen
pub GreetedSoFar-none : {addr : List ℕ} {s : SeatsState} {before after : WireState} {u : Unit} → before.peers ≡ 0 → s.told ≡ [] → AreNew s → Listens addr before after (Ok u) → GreetedSoFar addr s s 0 before after
GreetedSoFar-none {addr} {s} {before} {after} alone_here free new l = record {
  gave = λ p. [];
  greeted = record {
    stations_are = refl;
    words_are = refl;
    new = new;
    hellos = λ p low. absurd (let none = no_peer s.told free in omega arith);
    peers = l.peers ∙ alone_here ∙ sym (no_peer s.told free);
    left = λ p low. absurd (let none = no_peer s.told free in omega arith);
    others = λ p le. ap (λ (f : ℕ → Option (List ℕ)). f p) l.left;
    sent = λ p. ap (λ (f : ℕ → Option (List ℕ)). f p) l.sent;
    unsent = λ p low. absurd (let none = no_peer s.told free in omega arith);
    asked = l.asked ∙ ap (λ (told : List ℕ). grown before.asked (asked_for addr (length told))) (sym free);
    counted = l.counted;
  };
  counted = no_peer s.told free;
}

old_or_last : {A : Type 0} (p n : ℕ) → p < n + 1 → (p < n → A) → (p ≡ n → A) → A
old_or_last p n low old last = elim (cases_lt p n) [ inl lt ↦ old lt | inr le ↦ last (omega arith) ]

pub grown_again : {A : Type 0} (known : Option (List A)) (xs ys : List A) → grown (grown known xs) ys ≡ grown known (xs ++ ys)
grown_again None xs ys = refl
grown_again (Some zs) xs ys = ap Some (append_assoc zs xs ys)

pub asked_more : (addr : List ℕ) (peers : ℕ) → asked_for addr peers ++ [] ∷ [] ≡ asked_for addr (peers + 1)
asked_more addr peers = ap (λ (xs : List (List ℕ)). addr ∷ xs) (replicate_more peers [])

-- one more
HasGreeted-more : {addr : List ℕ} {n t : ℕ} {s new : SeatsState} {gave : ℕ → List ℕ} {w0 w w1 : WireState} {u : Unit} → HasGreeted addr n t s gave w0 w → (g : GreetsPeer s new w w1 (Ok u))
    → length new.told ≡ length s.told + 1 → HasGreeted addr n t new (λ p. if p == length s.told then g.greets.taken else gave p) w0 w1
HasGreeted-more {addr} {n} {t} {s} {new} {gave} {w0} {w} {w1} h g long =
    let seat = g.greets.answer.seat in
    let talks = g.greets.talks in
    let came = g.accepts in
    let peers = h.peers in
    let number = came.answer.1 in
    let kept = talks.peers in
    record {
      stations_are = ap (λ (x : SeatsState). x.stations) seat ∙ h.stations_are;
      words_are = ap (λ (x : SeatsState). x.words) seat ∙ h.words_are;
      new = g.greets.answer.seats;
      hellos = g.greets.answer.hellos gave h.hellos;
      peers = omega arith;
      left = λ p low. old_or_last p (length s.told) (omega arith)
          (λ old. let other : p ≢ length s.told = λ same. omega arith in
          rw (ne_eqb p (length s.told) other) (h.left p old ∙ ap (preceded (gave p)) (sym (talks.others_left p other ∙ ap (λ (f : ℕ → Option (List ℕ)). f p) came.left))))
          (λ same. rw (eq-eqb p (length s.told) same)
          (subst (λ (q : ℕ). w0.left q ≡ preceded g.greets.taken (w1.left q)) (sym same)
          (sym (h.others (length s.told) (omega arith)) ∙ sym (ap (λ (f : ℕ → Option (List ℕ)). f (length s.told)) came.left) ∙ talks.left)));
      others = λ p le. let other : p ≢ length s.told = λ same. omega arith in
          talks.others_left p other ∙ ap (λ (f : ℕ → Option (List ℕ)). f p) came.left ∙ h.others p (omega arith);
      sent = λ p. nothing_sent p ∙ ap (λ (f : ℕ → Option (List ℕ)). f p) came.sent ∙ h.sent p;
      unsent = λ p low. old_or_last p (length s.told) (omega arith) (h.unsent p)
          (λ same. subst IsEmptyIfKnown (ap (λ (q : ℕ). w.sent q) (peers ∙ sym same) ∙ h.sent p) came.answer.2);
      asked = talks.asked ∙ came.asked ∙ ap (λ (k : Option (List (List ℕ))). grown k ([] ∷ [])) h.asked
          ∙ grown_again w0.asked (asked_for addr (length s.told)) ([] ∷ []) ∙ ap (grown w0.asked) (asked_more addr (length s.told) ∙ ap (asked_for addr) (sym long));
      counted = let a = h.counted in let b = came.counted in let c = talks.counted in omega arith;
    }
  where
    nothing_sent : (p : ℕ) → w1.sent p ≡ g.there.sent p
    nothing_sent p = elim (same_or_other (length s.told) p) [
      | inl same ↦ subst (λ (q : ℕ). w1.sent q ≡ g.there.sent q) (sym same) (g.greets.talks.sent ∙ sym (grown-nothing (g.there.sent (length s.told))))
      | inr other ↦ g.greets.talks.others_sent p other
    ]

pub GreetedSoFar-more : {addr : List ℕ} {s now new : SeatsState} {count : ℕ} {w0 w w1 : WireState} {u : Unit} → GreetedSoFar addr s now count w0 w → GreetsPeer now new w w1 (Ok u) → GreetedSoFar addr s new (count + 1) w0 w1
GreetedSoFar-more {addr} {s} {now} {new} so_far g =
    let seat = g.greets.answer.seat in
    let long : length new.told ≡ length now.told + 1 = ap (λ (x : SeatsState). length x.told) seat ∙ length-append now.told (g.greets.answer.station ∷ []) in
    let counted = so_far.counted in
    record {
      gave = λ p. if p == length now.told then g.greets.taken else so_far.gave p;
      greeted = HasGreeted-more so_far.greeted g long;
      counted = omega arith;
    }

-- some, and not all
abbrev pub GreetedSoFar-some : {addr : List ℕ} {s now : SeatsState} {count : ℕ} {w0 w : WireState} → GreetedSoFar addr s now count w0 w → count < s.stations → GreetedSome addr s.stations s.words w0 w
GreetedSoFar-some {now = now} so_far low =
    let counted = so_far.counted in
    record { seats = now; gave = so_far.gave; greeted = so_far.greeted; some = omega arith }

-- the next peer was not greeted
pub GreetedSoFar-fails : {addr : List ℕ} {s now : SeatsState} {count : ℕ} {w0 w w1 : WireState} (fault : LiveFault) → GreetedSoFar addr s now count w0 w → count < s.stations → NotNext now w w1 fault
    → Fails addr s.stations s.words w0 w1 fault
GreetedSoFar-fails {w = w} fault so_far low (absent accepts is) = alone (record { middle = w; gathered = GreetedSoFar-some so_far low; accepts = accepts; fault_is = is })
GreetedSoFar-fails {w = w} fault so_far low (unfit new g) =
    ungreeted (record { middle = w; gathered = GreetedSoFar-some so_far low; there = g.there; accepts = g.accepts; new = new; greets = g.greets })

-- all peers were greeted
pub GreetedSoFar-all : {addr : List ℕ} {s now : SeatsState} {count : ℕ} {w0 w : WireState} → GreetedSoFar addr s now count w0 w → count ≡ s.stations → GathersAll addr s now w0 w
GreetedSoFar-all so_far same = record { gave = so_far.gave; greeted = so_far.greeted; all = so_far.counted ∙ same }

-- no more came
pub GreetedSoFar-stops : {addr : List ℕ} {s now : SeatsState} {count : ℕ} {w0 w : WireState} (w1 : WireState) (next_seats new : SeatsState) (f : Refusal LiveFault) → GreetedSoFar addr s now count w0 w → count < s.stations
    → GreetsNext now next_seats w w1 (Err f) → Gathers addr s new w0 w1 (Err f)
GreetedSoFar-stops w1 next_seats new (refusals.Bad fault) so_far low next = GreetedSoFar-fails fault so_far low next
GreetedSoFar-stops {addr} {s} {w0 = w0} w1 next_seats new refusals.NoMemory so_far low same = later (subst (λ (x : WireState). GreetedSome addr s.stations s.words w0 x) (sym same) (GreetedSoFar-some so_far low))

-- the next peer came and was not greeted
pub unfit_next : {s new : SeatsState} {before there after : WireState} (peer : ℕ) (fault : LiveFault) → before.peers ≡ length s.told → Accepts before there (Ok peer) → Greets peer s new there after (Err fault)
    → NotNext s before after fault
unfit_next {s} {new} {before} {there} {after} peer fault peers came g =
    let same : peer ≡ length s.told = came.answer.0 ∙ peers in
    unfit new (record {
      there = there;
      accepts = subst (λ (p : ℕ). Accepts before there (Ok p)) same came;
      greets = subst (λ (p : ℕ). Greets p s new there after (Err fault)) same g;
    })
