-- What is taken out of a vector is one of its items.
use Rattle.std.proofs.Common.{◌≡◌, List, [], ◌∷◌, ◌++◌, Some, All, length, ap, subst, ◌∙◌, arith}
use Rattle.std.proofs.Math.Seq.{get_or-append_seam}
use Rattle.std.proofs.lemmas.List.{length-append}
use Rattle.std.specs.Iterator.{Yields}
use Rattle.std.specs.Vec.Iter.{into_iter_items, into_iter_steps}
use Rattle.std.specs.declared.vec.IntoIter.{IntoIter}

taken_front : {X A : Type 0} (s : IntoIter X A) (xs : List X) (t : IntoIter X A) → Yields into_iter_steps s xs t → into_iter_items s ≡ xs ++ into_iter_items t
taken_front s [] t y = ap into_iter_items y
taken_front s (x ∷ xs) t y = y.1.0 ∙ ap (λ ys. x ∷ ys) (taken_front y.0 xs t y.2)

pub taken_item : {X A : Type 0} (P : X → Type 0) (s : IntoIter X A) (xs : List X) (t : IntoIter X A) (x : X) (u : IntoIter X A) → Yields into_iter_steps s xs t
    → into_iter_steps t (Some x) u → All P (into_iter_items s) → P x
taken_item P s xs t x u y step all =
    let rest = into_iter_items u in
    let same : into_iter_items s ≡ xs ++ x ∷ rest = taken_front s xs t y ∙ ap (λ ys. xs ++ ys) step.0 in
    subst P (get_or-append_seam xs x rest x) (subst (All P) same all (length xs) x (omega (arith, length-append xs (x ∷ rest))))
