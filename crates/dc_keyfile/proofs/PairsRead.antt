-- The pairs of a key file that were read: their ends and pads.
use Rattle.std.proofs.Common.{◌≡◌, ℕ, ◌*◌, ◌<◌, ◌≤◌, Bool, true, false, cond, eqb, List, [], length, get_or, Result, Ok, Err, All, refl, ap, subst, ◌∙◌, arith}
use Rattle.std.proofs.lemmas.Bool.{eqb-true}
use Rattle.dc_spec.specs.Words.{IsSymbol}
use Rattle.dc_spec.specs.Bytes.{short_at}
use Rattle.dc_spec.specs.Pads.{Pair}
use Rattle.dc_formats.specs.KeyFile.{IsPair, IsKeys}
use Rattle.dc_keys.specs.Pads.{IsPairKey}
use Rattle.dc_keyfile.specs.declared.head.Head.{Head}
use Rattle.dc_keyfile.specs.declared.fault.KeyFault.{KeyFault}
use Rattle.dc_keyfile.specs.Head.{IsHead, piece_at, ends_of, ends_fault, pairs_of, body_of}
use Rattle.dc_keyfile.specs.Reading.{pair_size, numbers_at, pads_of, with_first, with_second, padded, pair_of}
use Rattle.dc_keyfile.proofs.AllRead.{each_read}
use Rattle.dc_keyfile.proofs.HeadFound.{AreRead, body_found, unless_found, ends_found, rising_found}
use Rattle.dc_keyfile.proofs.Pads.{length-numbers_at, pads_found}

-- ---- a pair

-- pads that were read make a pair
pub IsPairKey-from_pads : (piece : List ℕ) (words p u v : ℕ) (a b : List ℕ) → 1 ≤ words → words ≤ 4096 → pads_of piece p 0 (16 * words) ≡ Ok a
    → pads_of piece p (16 * words) (16 * words) ≡ Ok b → get_or b 0 0 ≡ 0 → IsPairKey (record { u = u; v = v; a = a; b = b })
IsPairKey-from_pads piece words p u v a b some most first second zero_first =
    let first' = pads_found piece p 0 (16 * words) a first in
    let second' = pads_found piece p (16 * words) (16 * words) b second in
    let long : length a ≡ 16 * words = ap length first'.0 ∙ length-numbers_at piece 0 (16 * words) in
    let long' : length b ≡ 16 * words = ap length second'.0 ∙ length-numbers_at piece (16 * words) (16 * words) in
    record {
      some_words = omega arith;
      most_words = omega arith;
      first_pads = omega arith;
      second_pads = omega arith;
      first_symbols = first'.1;
      second_symbols = second'.1;
      no_first = zero_first;
    }

-- ---- a pair that was read

kept : (c : Bool) (fault : KeyFault) (p q : Pair) → cond c (Ok p) (Err fault) ≡ Ok q → (c ≡ true) × (p ≡ q)
kept true fault p q e = (refl, cc)
kept false fault p q e = absurd cc

-- ends and pads as a pair
abbrev pub the_pair : ℕ × ℕ → List ℕ → List ℕ → Pair
the_pair e a b = record { u = e.0; v = e.1; a = a; b = b }

with_second_well : (e : ℕ × ℕ) (p : ℕ) (a : List ℕ) (r : Result (List ℕ) KeyFault) (pair : Pair) → with_second e p a r ≡ Ok pair
    → (b : List ℕ) × (r ≡ Ok b) × (get_or b 0 0 ≡ 0) × (the_pair e a b ≡ pair)
with_second_well e p a (Err fault) pair given = absurd cc
with_second_well e p a (Ok b) pair given = let parts = kept (eqb (get_or b 0 0) 0) _ _ pair given in (b, refl, eqb-true (get_or b 0 0) 0 parts.0, parts.1)

-- what a pair that was read is made of
pub record IsPadded (piece : List ℕ) (words : ℕ) (pair : Pair) : Type 0 where
  pub lesser : pair.u ≡ short_at piece 0
  pub greater : pair.v ≡ short_at piece 2
  pub first : pair.a ≡ numbers_at piece 0 (16 * words)
  pub second : pair.b ≡ numbers_at piece (16 * words) (16 * words)
  pub first_symbols : All IsSymbol pair.a
  pub second_symbols : All IsSymbol pair.b
  pub no_first : get_or pair.b 0 0 ≡ 0

with_first_well : (piece : List ℕ) (words p : ℕ) (r : Result (List ℕ) KeyFault) (pair : Pair) → pads_of piece p 0 (16 * words) ≡ r
    → with_first (ends_of piece) piece p (16 * words) r ≡ Ok pair → IsPadded piece words pair
with_first_well piece words p (Err fault) pair first given = absurd cc
with_first_well piece words p (Ok a) pair first given =
    let parts = with_second_well (ends_of piece) p a (pads_of piece p (16 * words) (16 * words)) pair given in
    let first' = pads_found piece p 0 (16 * words) a first in
    let second' = pads_found piece p (16 * words) (16 * words) parts.0 parts.1 in
    let made : IsPadded piece words (the_pair
    (ends_of piece) a parts.0) = record { lesser = refl; greater = refl; first = first'.0; second = second'.0; first_symbols = first'.1; second_symbols = second'.1; no_first = parts.2 } in
    subst (IsPadded piece words) parts.3 made

pub padded_well : (piece : List ℕ) (words p : ℕ) (pair : Pair) → padded piece words p ≡ Ok pair → IsPadded piece words pair
unfolding padded
padded_well piece words p pair given = with_first_well piece words p (pads_of piece p 0 (16 * words)) pair refl given

-- a pair that was read, at its place
pub record IsRead (bytes : List ℕ) (stations words p : ℕ) (pair : Pair) : Type 0 where
  pub ends : AreRead bytes stations (pair_size words) p
  pub made : IsPadded (piece_at bytes (pair_size words) p) words pair

pair_found : (bytes : List ℕ) (stations words p : ℕ) (pair : Pair) → pair_of bytes stations words p ≡ Ok pair → IsRead bytes stations words p pair
unfolding pair_of
pair_found bytes stations words p pair given =
    let parts = unless_found (ends_fault bytes stations (pair_size words) p) _ pair given in
    record { ends = ends_found bytes stations (pair_size words) p parts.0; made = padded_well (piece_at bytes (pair_size words) p) words p pair parts.1 }

IsPair-from_read : (bytes : List ℕ) (stations words p : ℕ) (pair : Pair) → IsRead bytes stations words p pair → IsPair stations words pair
IsPair-from_read bytes stations words p pair is =
    let made = is.made in
    record {
      ends = rw (made.lesser, made.greater) is.ends.ends;
      within = rw made.greater is.ends.within;
      first_pads = ap length made.first ∙ length-numbers_at (piece_at bytes (pair_size words) p) 0 (16 * words);
      second_pads = ap length made.second ∙ length-numbers_at (piece_at bytes (pair_size words) p) (16 * words) (16 * words);
      first_symbols = made.first_symbols;
      second_symbols = made.second_symbols;
      no_first = made.no_first;
    }

-- ---- all pairs that were read

-- each pair of a list that was read
pub each_found : (bytes : List ℕ) (stations words count : ℕ) (ps : List Pair) → pairs_of (pair_of bytes stations words) count ≡ Ok ps
    → (length ps ≡ count) × ((k : ℕ) (d : Pair) → k < count → IsRead bytes stations words k (get_or ps k d))
each_found bytes stations words count ps given =
    let each = each_read (pair_of bytes stations words) count ps given in
    (each.0, λ k d lt. pair_found bytes stations words k (get_or ps k d) (each.1 k d lt))

IsKeys-from_pairs : (bytes : List ℕ) (h : Head) (ps : List Pair) → IsHead h → pairs_of (pair_of bytes h.stations h.words) h.count ≡ Ok ps
    → IsKeys (record { stations = h.stations; words = h.words; pairs = ps })
IsKeys-from_pairs bytes h ps is given =
    let each = each_found bytes h.stations h.words h.count ps given in
    record {
      some_stations = is.some_stations;
      most_stations = is.most_stations;
      some_words = is.some_words;
      most_words = is.most_words;
      most_symbols = rw each.0 is.most_symbols;
      are_pairs = λ k d lt. IsPair-from_read bytes h.stations h.words k _ (each.1 k d (omega (arith, each.0)));
      rising = rising_found (λ p. (p.u, p.v)) bytes (pair_size h.words) h.count ps each.0
          (λ k d lt. let made = (each.1 k d lt).made in λ i. (made.lesser i, made.greater i))
          (λ k lt. (each.1 k (record { u = 0; v = 0; a = []; b = [] }) lt).ends.rising);
    }

pub IsKeys-from_body : (bytes : List ℕ) (h : Head) (ps : List Pair) → IsHead h → body_of bytes (pair_size h.words) h.count (pair_of bytes h.stations h.words) ≡ Ok ps
    → IsKeys (record { stations = h.stations; words = h.words; pairs = ps })
IsKeys-from_body bytes h ps is read = IsKeys-from_pairs bytes h ps is (body_found bytes (pair_size h.words) h.count (pair_of bytes h.stations h.words) ps read).1
