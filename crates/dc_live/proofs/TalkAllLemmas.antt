-- Talks with all peers: with one of them, one talk after the other, and a broadcast.
use Rattle.std.proofs.Common.{◌≡◌, ◌≢◌, ℕ, ◌+◌, ◌<◌, ◌≤◌, ◌==◌, true, false, if◌then◌else◌, ◌⊎◌, inl, inr, List, [], ◌++◌, length, Option, Ok, Err, refl, sym, ap, subst, ◌∙◌, arith, append-nil, eq-eqb}
use Rattle.std.proofs.lemmas.Bool.{ne_eqb, cases_lt}
use Rattle.dc_spec.specs.Outside.{WireState, IsFront, grown, preceded}
use Rattle.dc_spec.specs.Frames.{all}
use Rattle.dc_formats.specs.Frames.{frame_bytes}
use Rattle.dc_live.specs.Talking.{Talks}
use Rattle.dc_live.specs.Sending.{SendsText}
use Rattle.dc_live.specs.Seats.{SeatsState, told_by, AreSeats}
use Rattle.dc_live.specs.HubSession.{TalksWithAll}
use Rattle.dc_live.specs.HubSteps.{Broadcasts}
use Rattle.dc_live.specs.declared.fault.LiveFault.{LiveFault}
use Rattle.dc_live.specs.declared.fault.LiveFault.TheVariants.{Wire, Peer}
use Rattle.dc_live.proofs.TalkLemmas.{preceded-nothing, preceded-twice, grown-nothing, grown-twice}

-- bytes of one peer alone
abbrev pub at_peer : ℕ → List ℕ → ℕ → List ℕ
at_peer p bytes q = if q == p then bytes else []

pub at_peer-same : (p : ℕ) (bytes : List ℕ) → at_peer p bytes p ≡ bytes
at_peer-same p bytes = rw (eq-eqb p p refl) refl

pub at_peer-other : (p q : ℕ) (bytes : List ℕ) → q ≢ p → at_peer p bytes q ≡ []
at_peer-other p q bytes ne = rw (ne_eqb q p ne) refl

pub at_peer-nothing : (p q : ℕ) → at_peer p [] q ≡ []
at_peer-nothing p q = elim (q == p) as (λ b. if◌then◌else◌ {A = List ℕ} b [] [] ≡ []) [ true ↦ refl | false ↦ refl ]

pub same_or_other : (p q : ℕ) → (q ≡ p) ⊎ (q ≢ p)
same_or_other p q = elim (cases_lt q p) [
  | inl lt ↦ inr (λ same. omega arith)
  | inr le ↦ (elim (cases_lt p q) [ inl lt ↦ inr (λ same. omega arith) | inr ge ↦ inl (omega arith) ])
]

pub TalksWithAll-none : (n : ℕ) (s : WireState) → TalksWithAll n (λ p. []) (λ p. []) s s
TalksWithAll-none n s = record {
  peers = refl;
  left = λ p low. preceded-nothing (s.left p);
  sent = λ p low. grown-nothing (s.sent p);
  others = λ p le. (refl, refl);
  asked = refl;
  counted = omega arith;
}

-- a talk with one of them
pub Talks-all : {p : ℕ} {t g : List ℕ} {s0 s1 : WireState} (n : ℕ) → p < n → Talks p t g s0 s1 → TalksWithAll n (at_peer p t) (at_peer p g) s0 s1
Talks-all {p} {t} {g} {s0} {s1} n low a = record {
  peers = a.peers;
  left = λ q lt. elim (same_or_other p q) [
    | inl same ↦ rw (same, at_peer-same p t) a.left
    | inr other ↦ rw (at_peer-other p q t other) (sym (a.others_left q other) ∙ preceded-nothing (s1.left q))
  ];
  sent = λ q lt. elim (same_or_other p q) [
    | inl same ↦ rw (same, at_peer-same p g) a.sent
    | inr other ↦ rw (at_peer-other p q g other) (a.others_sent q other ∙ grown-nothing (s0.sent q))
  ];
  others = λ q le. let other : q ≢ p = λ same. omega arith in (a.others_left q other, a.others_sent q other);
  asked = a.asked;
  counted = a.counted;
}

-- one talk after the other
pub TalksWithAll-then : {n : ℕ} {t1 t2 g1 g2 : ℕ → List ℕ} {s0 s1 s2 : WireState} → TalksWithAll n t1 g1 s0 s1 → TalksWithAll n t2 g2 s1 s2 → TalksWithAll n (λ p. t1 p ++ t2 p) (λ p. g1 p ++ g2 p) s0 s2
TalksWithAll-then {n} {t1} {t2} {g1} {g2} {s0} {s1} {s2} a b = record {
  peers = b.peers ∙ a.peers;
  left = λ p low. a.left p low ∙ ap (preceded (t1 p)) (b.left p low) ∙ preceded-twice (t1 p) (t2 p) (s2.left p);
  sent = λ p low. b.sent p low ∙ ap (λ (k : Option (List ℕ)). grown k (g2 p)) (a.sent p low) ∙ grown-twice (s0.sent p) (g1 p) (g2 p);
  others = λ p le. ((b.others p le).0 ∙ (a.others p le).0, (b.others p le).1 ∙ (a.others p le).1);
  asked = b.asked ∙ a.asked;
  counted = let p = a.counted in let q = b.counted in omega arith;
}

-- the same talks by other names
pub TalksWithAll-same : {n : ℕ} {t g : ℕ → List ℕ} {s0 s1 : WireState} (t' g' : ℕ → List ℕ) → ((p : ℕ) → p < n → t p ≡ t' p) → ((p : ℕ) → p < n → g p ≡ g' p) → TalksWithAll n t g s0 s1 → TalksWithAll n t' g' s0 s1
TalksWithAll-same {s0 = s0} {s1 = s1} t' g' same_t same_g a = record {
  peers = a.peers;
  left = λ p low. a.left p low ∙ ap (λ (x : List ℕ). preceded x (s1.left p)) (same_t p low);
  sent = λ p low. a.sent p low ∙ ap (grown (s0.sent p)) (same_g p low);
  others = a.others;
  asked = a.asked;
  counted = a.counted;
}

-- ---- a broadcast

-- two peers told different stations
pub told_apart : (s : SeatsState) → AreSeats s → (p q : ℕ) → p < length s.told → q < length s.told → q ≢ p → told_by s q ≢ told_by s p
told_apart s are p q low_p low_q ne same = elim (cases_lt p q) [
  | inl lt ↦ are.distinct p q lt low_q (sym same)
  | inr le ↦ (elim (cases_lt q p) [ inl lt ↦ are.distinct q p lt low_p same | inr ge ↦ ne (omega arith) ])
]

-- the text went to the peers of the stations before this one
pub record SentSoFar (s : SeatsState) (text : List ℕ) (station : ℕ) (w0 w : WireState) : Type 0 where
  pub given : ℕ → List ℕ
  pub talks : TalksWithAll s.stations (λ p. []) given w0 w
  pub before : (p : ℕ) → p < s.stations → told_by s p < station → given p ≡ text
  pub after : (p : ℕ) → p < s.stations → station ≤ told_by s p → given p ≡ []

pub SentSoFar-none : (s : SeatsState) (text : List ℕ) (w : WireState) → SentSoFar s text 0 w w
SentSoFar-none s text w = record { given = λ p. []; talks = TalksWithAll-none s.stations w; before = λ p low lt. absurd (omega arith); after = λ p low le. refl }

-- what was given with this much more to one peer
abbrev more_to : (ℕ → List ℕ) → ℕ → List ℕ → ℕ → List ℕ
more_to given p out q = given q ++ at_peer p out q

more_talks : {s : SeatsState} {text : List ℕ} {station : ℕ} {w0 w w1 : WireState} (p : ℕ) (out : List ℕ) (so_far : SentSoFar s text station w0 w) → p < s.stations → Talks p [] out w w1
    → TalksWithAll s.stations (λ q. []) (more_to so_far.given p out) w0 w1
more_talks {s} p out so_far low talks =
    TalksWithAll-same (λ q. []) (more_to so_far.given p out) (λ q lt. at_peer-nothing p q) (λ q lt. refl) (TalksWithAll-then so_far.talks (Talks-all s.stations low talks))

more_same : (given : ℕ → List ℕ) (p q : ℕ) (out : List ℕ) → q ≡ p → given q ≡ [] → more_to given p out q ≡ out
more_same given p q out same none = rw (none, same, at_peer-same p out) refl

more_other : (given : ℕ → List ℕ) (p q : ℕ) (out : List ℕ) → q ≢ p → more_to given p out q ≡ given q
more_other given p q out other = rw (at_peer-other p q out other) (append-nil (given q))

pub SentSoFar-more : {s : SeatsState} {text : List ℕ} {station : ℕ} {w0 w w1 : WireState} {u : Unit} (p : ℕ) → AreSeats s → length s.told ≡ s.stations → SentSoFar s text station w0 w → p < length s.told
    → told_by s p ≡ station → SendsText p text w w1 (Ok u) → SentSoFar s text (station + 1) w0 w1
SentSoFar-more {s} {text} {station} {w0} {w} {w1} p are every so_far low told out = record {
  given = more_to so_far.given p out.given;
  talks = more_talks p out.given so_far (omega arith) out.talks;
  before = λ q lt less. elim (same_or_other p q) [
    | inl same ↦ more_same so_far.given p q out.given same (so_far.after q lt (let t = ap (told_by s) same in omega arith)) ∙ out.answer
    | inr other ↦ (let apart = told_apart s are p q low (omega arith) other in
        more_other so_far.given p q out.given other ∙ so_far.before q lt (below_next (told_by s q) station less (λ same. apart (same ∙ sym told))))
  ];
  after = λ q lt le. elim (same_or_other p q) [
    | inl same ↦ absurd (let t = ap (told_by s) same in omega arith)
    | inr other ↦ more_other so_far.given p q out.given other ∙ so_far.after q lt (omega arith)
  ];
}
  where
    below_next : (x n : ℕ) → x < n + 1 → x ≢ n → x < n
    below_next x n less ne = elim (cases_lt x n) [ inl lt ↦ lt | inr le ↦ absurd (ne (omega arith)) ]

pub SentSoFar-done : {s : SeatsState} {round : ℕ} {sum : List ℕ} {w0 w : WireState} {u : Unit} → AreSeats s → length s.told ≡ s.stations → SentSoFar s (frame_bytes (all round sum)) s.stations w0 w
    → Broadcasts s.stations round sum w0 w (Ok u)
SentSoFar-done are every so_far = record { given = so_far.given; talks = so_far.talks; answer = λ p low. so_far.before p low (are.below p (omega arith)) }

pub SentSoFar-stops : {s : SeatsState} {round station : ℕ} {sum : List ℕ} {w0 w w1 : WireState} (p : ℕ) (fault : LiveFault) → AreSeats s → length s.told ≡ s.stations
    → SentSoFar s (frame_bytes (all round sum)) station w0 w → p < length s.told → told_by s p ≡ station → SendsText p (frame_bytes (all round sum)) w w1 (Err fault) → Broadcasts s.stations round sum w0 w1 (Err fault)
SentSoFar-stops p (Peer who fault) are every so_far low told out = absurd out.answer
SentSoFar-stops {s} {round} {station} {sum} {w0} {w} {w1} p Wire are every so_far low told out =
    let earlier = so_far.talks.counted in
    let rose = out.answer.1 in
    let text = frame_bytes (all round sum) in
    record {
      given = more_to so_far.given p out.given;
      talks = more_talks p out.given so_far (omega arith) out.talks;
      answer = (
        λ q lt. elim (same_or_other p q) [
          | inl same ↦ subst (λ (x : List ℕ). IsFront x text) (sym (more_same so_far.given p q out.given same (so_far.after q lt (let t = ap (told_by s) same in omega arith)))) out.answer.0
          | inr other ↦ subst (λ (x : List ℕ). IsFront x text) (sym (more_other so_far.given p q out.given other)) (whole_or_none q lt)
        ],
        omega arith,
      );
    }
  where
    whole_or_none : (q : ℕ) → q < s.stations → IsFront (so_far.given q) (frame_bytes (all round sum))
    whole_or_none q lt = elim (cases_lt (told_by s q) station) [
      | inl less ↦ ([], sym (so_far.before q lt less) ∙ sym (append-nil (so_far.given q)))
      | inr le ↦ (frame_bytes (all round sum), sym (ap (λ (x : List ℕ). x ++ frame_bytes (all round sum)) (so_far.after q lt le)))
    ]
