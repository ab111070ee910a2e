-- Laws of a set that is made at the end of a list.
use Rattle.std.proofs.Common.{◌≡◌, ℕ, ◌+◌, ◌-◌, ◌≤◌, List, ◌++◌, length, take, drop, sym, ap, ◌∙◌, arith}
use Rattle.std.proofs.lemmas.List.{take-take, take_at, drop_at, take_all, take-append-le, length-append, append_assoc}
use Rattle.std.proofs.Math.Seq.{take-append-add}

module _ (all old more : List ℕ) (n : ℕ) (is : all ≡ old ++ more) (at : n ≡ length old) where
  front_is : take n all ≡ old
  front_is = ap (take n) is ∙ take_at old more n (sym at)

  -- what was appended
  pub tail_is : take (length all - n) (drop n all) ≡ more
  tail_is =
      let e = ap length is in
      let l = length-append old more in
      ap (take (length all - n)) (ap (drop n) is ∙ drop_at old more n (sym at)) ∙ take_all (length all - n) more (omega arith)

  -- the list after its tail has become another, of which the first k stay
  pub kept_tail : (tail post rest : List ℕ) (k len : ℕ) → k ≤ length tail → n + k ≤ len → take (n + k) (take len (take n all ++ (tail ++ post) ++ rest)) ≡
      old ++ take k tail
  kept_tail tail post rest k len short fits =
      take-take (n + k) len (take n all ++ (tail ++ post) ++ rest) fits
      ∙ ap (λ xs. take (n + k) (xs ++ (tail ++ post) ++ rest)) front_is
      ∙ ap (take (n + k)) (append_assoc old (tail ++ post) rest)
      ∙ ap (λ m. take (m + k) (old ++ (tail ++ post ++ rest))) at
      ∙ take-append-add old (tail ++ post ++ rest) k
      ∙ ap (λ xs. old ++ take k xs) (append_assoc tail post rest)
      ∙ ap (λ xs. old ++ xs) (take-append-le k tail (post ++ rest) short)
