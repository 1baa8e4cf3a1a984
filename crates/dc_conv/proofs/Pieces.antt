-- Writes to a list piece by piece.
use Rattle.std.proofs.Common.{◌≡◌, ℕ, ◌+◌, ◌-◌, ◌<◌, ◌≤◌, List, ◌++◌, length, get_or, take, sym, ap, ◌∙◌, arith, inl, inr}
use Rattle.std.proofs.lemmas.Bool.{cases_lt}
use Rattle.std.proofs.lemmas.List.{get_or-take, get_or-drop, get_or-append-add, length-take}
use Rattle.std.proofs.lemmas.Slice.{take-put_mid_below, take-put_mid, drop-put_mid}
use borrow.Rule.Slice.PartMut.{mid_of, put_mid}
use Rattle.dc_keys.proofs.KeySums.{pad_in_piece}

-- after a write of ys to the k places from a on, which end before place e
module _ (xs ys : List ℕ) (a k e : ℕ) (end : a + k ≡ e) (within : e ≤ length xs) (long : length ys ≡ k) where
  -- what stands before the piece
  piece_before : (i : ℕ) → i < a → get_or (put_mid a k xs ys) i 0 ≡ get_or xs i 0
  piece_before i lt =
      sym (get_or-take a (put_mid a k xs ys) i 0 lt)
      ∙ ap (λ (l : List ℕ). get_or l i 0) (take-put_mid_below a k xs ys a (omega arith) (omega arith)) ∙ get_or-take a xs i 0 lt

  -- the piece
  pub piece_here : (j : ℕ) → j < k → get_or (put_mid a k xs ys) (a + j) 0 ≡ get_or ys j 0
  piece_here j lt =
      let front : length (take a xs) ≡ a = (let p = length-take a xs in omega arith) in
      sym (get_or-take (a + length ys) (put_mid a k xs ys) (a + j) 0 (omega arith))
      ∙ ap (λ (l : List ℕ). get_or l (a + j) 0) (take-put_mid a k xs ys (a + length ys) (omega arith) (omega arith))
      ∙ ap (λ (n : ℕ). get_or (take a xs ++ ys) (n + j) 0) (sym front) ∙ get_or-append-add (take a xs) ys j 0

  -- what stands after it
  pub piece_after : (i : ℕ) → e ≤ i → get_or (put_mid a k xs ys) i 0 ≡ get_or xs i 0
  piece_after i le =
      let at : a + k + (i - (a + k)) ≡ i = omega arith in
      ap (λ (n : ℕ). get_or (put_mid a k xs ys) n 0) (sym at) ∙ sym (get_or-drop (a + k) (put_mid a k xs ys) (i - (a + k)) 0)
      ∙ ap (λ (l : List ℕ). get_or l (i - (a + k)) 0) (drop-put_mid a k xs ys (a + k) (omega arith) (omega arith) long)
      ∙ get_or-drop (a + k) xs (i - (a + k)) 0 ∙ ap (λ (n : ℕ). get_or xs n 0) at

  -- numbers that stay small
  pub piece_small : (m : ℕ) → ((i : ℕ) → get_or xs i 0 ≤ m) → ((j : ℕ) → get_or ys j 0 ≤ m) → (i : ℕ)
      → get_or (put_mid a k xs ys) i 0 ≤ m
  piece_small m small here i = elim (cases_lt i a) [
    | inl less ↦ rw (piece_before i less) (small i)
    | inr le ↦ elim (cases_lt i e) [
      | inl lt ↦
          let at : a + (i - a) ≡ i = omega arith in
          let there : get_or (put_mid a k xs ys) (a + (i - a)) 0 ≤ m = rw (piece_here (i - a) (omega arith)) (here (i - a)) in
          rw at at there
      | inr past ↦ rw (piece_after i past) (small i)
    ]
  ]

  -- where the places from a on were as at first
  module _ (was : List ℕ) (rest : (i : ℕ) → a ≤ i → get_or xs i 0 ≡ get_or was i 0) where
    -- the places that are done, with the piece
    pub pieces_more : (f g : ℕ → ℕ) → ((i : ℕ) → i < a → get_or xs i 0 ≡ get_or was i 0 + f i)
        → ((j : ℕ) → j < k → get_or ys j 0 ≡ get_or (mid_of a k xs) j 0 + g j) → ((j : ℕ) → j < k → g j ≡ f (a + j))
        → (i : ℕ) → i < e → get_or (put_mid a k xs ys) i 0 ≡ get_or was i 0 + f i
    pieces_more f g so_far added same i lt = elim (cases_lt i a) [
      | inl less ↦ piece_before i less ∙ so_far i less
      | inr le ↦
          let at : a + (i - a) ≡ i = omega arith in
          let here : get_or (put_mid a k xs ys) (a + (i - a)) 0 ≡ get_or was (a + (i - a)) 0 + f (a + (i - a)) =
          omega (arith, piece_here (i - a) (omega arith), added (i - a) (omega arith), same (i - a) (omega arith), pad_in_piece xs k a (i - a) (omega arith), rest (a + (i - a)) (omega arith)) in
          rw at at here
    ]

    -- the places that are still as they were
    pub pieces_rest : (i : ℕ) → e ≤ i → get_or (put_mid a k xs ys) i 0 ≡ get_or was i 0
    pieces_rest i le = piece_after i le ∙ rest i (omega arith)

    -- a bound on what each place has gained
    pub pieces_grown : (m : ℕ) → ((i : ℕ) → get_or xs i 0 ≤ get_or was i 0 + m)
        → ((j : ℕ) → get_or ys j 0 ≤ get_or (mid_of a k xs) j 0 + m) → (i : ℕ) → get_or (put_mid a k xs ys) i 0 ≤ get_or was i 0 + m
    pieces_grown m grown here i = elim (cases_lt i a) [
      | inl less ↦ rw (piece_before i less) (grown i)
      | inr le ↦ elim (cases_lt i e) [
        | inl lt ↦
            let at : a + (i - a) ≡ i = omega arith in
            let there : get_or (put_mid a k xs ys) (a + (i - a)) 0 ≤ get_or was (a + (i - a)) 0 + m =
            omega (arith, piece_here (i - a) (omega arith), here (i - a), pad_in_piece xs k a (i - a) (omega arith), rest (a + (i - a)) (omega arith)) in
            rw at at there
        | inr past ↦ rw (piece_after i past) (grown i)
      ]
    ]
