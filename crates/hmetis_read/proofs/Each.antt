-- Reading a list from the left, where its front was read already.
use Rattle.std.proofs.Common.{◌≡◌, ℕ, ◌+◌, nat_le, length, take, List, [], ◌∷◌, ◌++◌, Ok, Err, refl, sym, ◌∙◌, ap}
use Rattle.std.proofs.lemmas.List.{append_assoc}
use Rattle.hg_text.specs.Kept.{Line, Reading}
use Rattle.hmetis_read.specs.Graph.{Read, ◌>>=◌, each, guarded, first_in}
use Rattle.hmetis_read.specs.declared.fault.GraphFault.{GraphFault}
use Rattle.hmetis_read.specs.declared.fault.GraphFault.TheVariants.{Bad}
use Rattle.hmetis_read.specs.declared.fault.LineKind.TheVariants.{MissingLine}

-- what was read, and then what is to be read
abbrev pub with_front : {B : Type 0} → List B → Read (List B) → Read (List B)
with_front front later = later >>= λ ys. Ok (front ++ ys)

pub front_nil : {B : Type 0} (later : Read (List B)) → with_front [] later ≡ later
front_nil (Ok ys) = refl
front_nil (Err e) = refl

front_push : {B : Type 0} (front : List B) (y : B) (later : Read (List B)) → with_front front (later >>= λ ys. Ok (y ∷ ys)) ≡ with_front (front ++ y ∷ [])
    later
front_push front y (Ok ys) = ap Ok (sym (append_assoc front (y ∷ []) ys))
front_push front y (Err e) = refl

-- one more is read
pub front_ok : {A B : Type 0} (f : A → Read B) (front : List B) (x : A) (xs : List A) (y : B) → f x ≡ Ok y → with_front front (each f (x ∷ xs)) ≡ with_front
    (front ++ y ∷ []) (each f xs)
front_ok {B = B} f front x xs y e =
    ap (λ (r : Read B). with_front front (r >>= λ y. each f xs >>= λ ys. Ok (y ∷ ys))) e ∙ front_push front y (each f xs)

-- a fault ends the reading
pub front_err : {A B : Type 0} (f : A → Read B) (front : List B) (x : A) (xs : List A) (fault : GraphFault) → f x ≡ Err fault →
    with_front front (each f (x ∷ xs)) ≡ Err fault
front_err {B = B} f front x xs fault e = ap (λ (r : Read B). with_front front (r >>= λ y. each f xs >>= λ ys. Ok (y ∷ ys))) e

-- a fault among the first lines
pub first_err : {A : Type 0} (count : ℕ) (read : List Line → Read A) (text : Reading) (fault : GraphFault) → read (take count text.kept) ≡ Err fault →
    first_in count read text ≡ Err fault
first_err {A = A} count read text fault e =
    ap (λ (r : Read A). r >>= λ values. guarded (nat_le count (length text.kept)) (Bad (text.count + 1) MissingLine) values) e
