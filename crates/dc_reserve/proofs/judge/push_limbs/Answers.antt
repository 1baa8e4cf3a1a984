use Rattle.std.proofs.Common.{◌≡◌, ℕ, ◌+◌, List, [], ◌∷◌, ◌++◌, map, sym, ap, ◌∙◌, arith, append_assoc, length-append, rules}
use Rattle.std.specs.List.{range_with_len}
use Rattle.std.proofs.lemmas.List.FromFn.{map-range_with_len_more}
use Rattle.dc_spec.specs.Values.{fifteen}
use Rattle.dc_reserve.proofs.judge.push_limbs.Goals as goal

-- one more item at the end
one_more : (f : ℕ → ℕ) (first old new : List ℕ) (x l : ℕ) → old ≡ first ++ map f (range_with_len 0 l) → new ≡ old ++ x ∷ [] → x ≡ f l → new ≡ first ++ map f (range_with_len 0 (l + 1))
one_more f first old new x l so_far pushed here =
    pushed ∙ (rw (so_far, here) (append_assoc first (map f (range_with_len 0 l)) (f l ∷ []) ∙ ap (λ (more : List ℕ). first ++ more) (sym (map-range_with_len_more f 0 l l (omega arith)))))

-- all fifteen
all_limbs : (f : ℕ → ℕ) (first all : List ℕ) (l : ℕ) → l ≡ 15 → all ≡ first ++ map f (range_with_len 0 l) → all ≡ first ++ fifteen f
unfolding fifteen
all_limbs f first all l end is = is ∙ ap (λ (n : ℕ). first ++ map f (range_with_len 0 n)) end

pub loop-l-preserved : goal.loop-l-preserved
loop-l-preserved c =
    let pushed = one_more _ c.args.bytes.now.items c.loop-l.bytes.items _ _ c.loop-l.l c.loop-l.invariant.0 c.push_byte.ensures.bytes (search rules) in
    (pushed, rw c.push_byte.ensures.bytes (omega (arith, length-append {A = ℕ}, c.loop-l.invariant.1)), c.push_byte.ensures.room)

pub returns-clause-bytes : goal.returns-clause-bytes
returns-clause-bytes c = all_limbs _ c.args.bytes.now.items c.loop-l.bytes.items c.loop-l.l (omega arith) c.loop-l.invariant.0
