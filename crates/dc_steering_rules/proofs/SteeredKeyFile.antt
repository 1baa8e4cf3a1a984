-- The keys of a net with other pads for one of its pairs are keys.
use Rattle.std.proofs.Common.{◌≡◌, ℕ, ◌*◌, ◌≤◌, Bool, true, false, if◌then◌else◌, List, [], ◌∷◌, map, refl, sym, ap₂, subst}
use Rattle.std.specs.List.{All}
use Rattle.std.proofs.lemmas.List.{length-map}
use Rattle.std.proofs.lemmas.List.Elements.{All-cons, All-head, All-tail}
use Rattle.dc_spec.specs.Limits as limit
use Rattle.dc_spec.specs.Pads.{Pair}
use Rattle.dc_spec.specs.Net.{Net}
use Rattle.dc_formats.specs.KeyFile.{IsPair, IsKeys, AreEndsRising}
use Rattle.dc_net_rules.specs.Nets.{IsNet}
use Rattle.dc_net_rules.proofs.Agreeing.{all_agree}
use Rattle.dc_steering_rules.specs.Steerings.{has_ends, with_pair}
use Rattle.dc_steering_rules.proofs.KeyChanges.{put_pair}
use Rattle.dc_steering_rules.proofs.OwnPair.{ends_are}

-- each pair is a pair
put_pairs : (n t : ℕ) (k : Pair) → IsPair n t k → (ps : List Pair) → All (IsPair n t) ps → All (IsPair n t) (map (put_pair k.u k.v k) ps)
put_pairs n t k is [] all = all
put_pairs n t k is (p ∷ ps) all = All-cons (IsPair n t) (put_pair k.u k.v k p) (map (put_pair k.u k.v k) ps)
    (either (has_ends k.u k.v p)) (put_pairs n t k is ps (All-tail (IsPair n t) p ps all))
  where
    either : (b : Bool) → IsPair n t (if b then k else p)
    either true = is
    either false = All-head (IsPair n t) p ps all

abbrev ends_of : Pair → ℕ × ℕ
ends_of p = (p.u, p.v)

-- and has the ends that it had
put_ends : (k : Pair) (ps : List Pair) → map ends_of (map (put_pair k.u k.v k) ps) ≡ map ends_of ps
put_ends k [] = refl
put_ends k (p ∷ ps) = ap₂ (λ (e : ℕ × ℕ) (es : List (ℕ × ℕ)). e ∷ es) here (put_ends k ps)
  where
    pair_of : ℕ → ℕ → ℕ × ℕ
    pair_of a b = (a, b)

    both : {a b c d : ℕ} → a ≡ c → b ≡ d → pair_of a b ≡ pair_of c d
    both e f = ap₂ pair_of e f

    either : (b : Bool) → has_ends k.u k.v p ≡ b → ends_of (if b then k else p) ≡ ends_of p
    either true passes = let ends = ends_are k.u k.v p passes in both (sym ends.0) (sym ends.1)
    either false fails = refl

    here : ends_of (put_pair k.u k.v k p) ≡ ends_of p
    here = either (has_ends k.u k.v p) refl

-- so the keys are keys
pub put-keys : (net : Net) → IsNet net → (k : Pair) → IsPair net.stations net.words k → IsKeys (with_pair net k).keys
put-keys net is k pair =
    let agree = all_agree net is.agrees in
    let keys = is.keys in
    let own : IsPair net.keys.stations net.keys.words k = subst (λ (n : ℕ). IsPair n net.keys.words k) (sym agree.key_stations) (subst (λ (t : ℕ). IsPair net.stations t k)
    (sym agree.words) pair) in
    record {
      some_stations = keys.some_stations;
      most_stations = keys.most_stations;
      some_words = keys.some_words;
      most_words = keys.most_words;
      most_symbols = subst (λ (c : ℕ). c * (32 * net.keys.words) ≤ limit.most_pads) (sym (length-map net.keys.pairs (put_pair k.u k.v k))) keys.most_symbols;
      are_pairs = put_pairs net.keys.stations net.keys.words k own net.keys.pairs keys.are_pairs;
      rising = subst AreEndsRising (sym (put_ends k net.keys.pairs)) keys.rising;
    }
