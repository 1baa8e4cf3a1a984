-- The summary of a trial in its parts.
use Rattle.std.proofs.Common.{◌≡◌, ℕ, ◌+◌, ◌%◌, ◌<◌, List, [], ◌∷◌, ◌++◌, length, get_or, map, take, sum_by, refl, sym, ap, ◌∙◌}
use Rattle.std.specs.Prelude.{codes, decimal}
use Rattle.std.proofs.Math.Nat.{mod-add-mod}
use Rattle.std.proofs.lemmas.List.Sums.{sum_by_more, sum_by-cons}
use Rattle.dc_spec.specs.Text.{line, word_text}
use Rattle.dc_spec.specs.Words.{word_sum, word_add}
use Rattle.dc_spec.specs.Net.{Run}
use Rattle.dc_spec.proofs.WordLemmas.{symbol-word_of, word_of-same}
use Rattle.dc_station.specs.declared.phase.Pending.{Pending}
use Rattle.dc_run_texts.specs.Logs.{pending_line}
use Rattle.dc_run_texts.specs.Trial.{first_log, longs_in, shorts_in, trial_line, trial_text}

-- one word more
pub sum_more : (ws : List (List ℕ)) (i : ℕ) (d : List ℕ) → i < length ws → word_add (word_sum (take i ws)) (get_or ws i d) ≡ word_sum (take (i + 1) ws)
sum_more ws i d lt = word_of-same _ _ (λ l below.
    let so_far : get_or (word_sum (take i ws)) l 0 ≡ sum_by (λ w. get_or w l 0) (take i ws) % 65537 = symbol-word_of (λ k. sum_by (λ w. get_or w k 0) (take i ws) % 65537) l below in
    let with_so_far : ℕ → ℕ = λ x. (x + get_or (get_or ws i d) l 0) % 65537 in
    let reduced : ℕ → ℕ = λ x. x % 65537 in
    ap with_so_far so_far ∙ mod-add-mod (sum_by (λ w. get_or w l 0) (take i ws)) 65537 (get_or (get_or ws i d) l 0)
    ∙ ap reduced (sym (sum_by_more (λ w. get_or w l 0) ws i d lt)))

-- a sum over what a function makes of the items
sum_of_map : {X Y : Type 0} (f : Y → ℕ) (g : X → Y) (xs : List X) → sum_by f (map g xs) ≡ sum_by (λ x. f (g x)) xs
sum_of_map f g [] = refl
sum_of_map f g (x ∷ xs) =
    sum_by-cons f (g x) (map g xs) ∙ ap (λ (rest : ℕ). f (g x) + rest) (sum_of_map f g xs) ∙ sym (sum_by-cons (λ y. f (g y)) x xs)

-- how a run keeps what is pending at a station
abbrev pub both : Pending → ℕ × ℕ
both p = (p.shorts, p.longs)

-- the five lines
pub trial_text-lines : (seed stations words : ℕ) (run : Run) (shorts longs : ℕ) (pending : List Pending) (sum : List ℕ)
    → shorts ≡ sum_by shorts_in (first_log run) → longs ≡ sum_by longs_in (first_log run) → map both pending ≡ run.pending → sum ≡ word_sum run.sums
    → trial_text seed stations words run ≡ trial_line seed stations words ++ line (codes "short " ++ decimal shorts) ++ line (codes "long " ++ decimal longs)
    ++ pending_line (sum_by (λ p. p.shorts) pending) (sum_by (λ p. p.longs) pending) ++ line (codes "sum " ++ word_text sum)
unfolding trial_text
trial_text-lines seed stations words run shorts longs pending sum are_shorts are_longs are_pending is_sum =
    let first : sum_by (λ p. p.0) run.pending ≡ sum_by (λ p. p.shorts) pending = ap (sum_by (λ (p : ℕ × ℕ). p.0)) (sym are_pending) ∙ sum_of_map (λ (p : ℕ × ℕ). p.0) both pending in
    let second : sum_by (λ p. p.1) run.pending ≡ sum_by (λ p. p.longs) pending = ap (sum_by (λ (p : ℕ × ℕ). p.1)) (sym are_pending) ∙ sum_of_map (λ (p : ℕ × ℕ). p.1) both pending in
    rw (first, second, are_shorts, are_longs, is_sum) refl
